-- The site chart meets every law of a chart kind.
use Rattle.std.proofs.Common.{◌≡◌, ℕ, ◌≤◌, false, not, List, None, arith}
use Rattle.refusal.specs.declared.Refusal.TheVariants.{FieldOutOfRange, NumberHeld}
use Rattle.records.specs.declared.raw.SiteRecord.{SiteRecord}
use Rattle.records.specs.declared.raw.Rectangle.{Rectangle}
use Rattle.records.specs.Held.{holds}
use Rattle.records.proofs.Outcome.{first_passed, then_passed}
use Rattle.sites.specs.Site.{is_site, number_of, add_refusal}
use Rattle.sites.specs.Holdable.{CanBeHeld}
use Rattle.search.specs.Walk.{most_waiting}
use Rattle.search.specs.Visit.{IsWalked}
use Rattle.search.proofs.Walking.{crowds_are_allowed, roses_make_figures}
use Rattle.site_figure.specs.Judge.{site_judging}
use Rattle.site_figure.specs.Figure.{x_tree}
use Rattle.site_figure.specs.Promises.{RectanglesAreAnswered, SitesAreLawful}
use Rattle.site_figure.proofs.Judges.{judges_well_lem}
use Rattle.site_figure.proofs.Emissions.{figure_told}
use Rattle.site_figure.proofs.Holding.{figures_are_fit_lem, few_wait_lem, visits_are_short_lem}

-- an unrefused add's number is not held
adds_new_numbers_lem : (held : List SiteRecord) (r : SiteRecord) → add_refusal held r ≡ None → holds number_of (number_of r) held ≡ false
adds_new_numbers_lem held r free = first_passed _ NumberHeld _ (then_passed (not (is_site r)) FieldOutOfRange _ free)

walked : (held : List SiteRecord) (q : Rectangle) (limit : ℕ) → CanBeHeld held → 8 ≤ limit → IsWalked site_judging q limit (x_tree held)
walked held q limit h enough =
    crowds_are_allowed site_judging judges_well_lem q limit (x_tree held) (figures_are_fit_lem held h) (omega (arith, few_wait_lem held q h))

pub rectangles_are_answered_lem : RectanglesAreAnswered
rectangles_are_answered_lem held q h =
    let w = walked held q 8 h (omega arith) in
    record {
      visited = w.visited;
      emitted = _;
      walk = w.walk;
      short = omega (arith, w.bytes, visits_are_short_lem held q h);
      exact = figure_told q held;
    }

pub sites_are_lawful_lem : SitesAreLawful
sites_are_lawful_lem =
    record {
      judges_well = judges_well_lem;
      adds_new_numbers = adds_new_numbers_lem;
      figures = λ held h. roses_make_figures site_judging (x_tree held) (figures_are_fit_lem held h);
      answers =
          λ held q h _.
          let w = walked held q most_waiting h (omega arith) in
          record {
            visited = w.visited;
            emitted = _;
            walk = w.walk;
            short = omega (arith, w.bytes, visits_are_short_lem held q h);
            exact = figure_told q held;
          };
    }
