use Rattle.std.proofs.Common.{◌∷◌, set, Ok, Err, sym, refl, ◌∙◌}
use Rattle.std.proofs.lemmas.Bool.{cond-true, cond-false}
use Rattle.slices.specs.Stacks.{contents, has_free_place}
use Rattle.slices.proofs.Stacking.{free_place, no_free_place, entries_pushed}
use Rattle.slices.proofs.stack.Stack.push.Goals as goal

pub returns-then-self : goal.returns-then-self
returns-then-self g c =
    let s = c.args.self.now in
    let full = no_free_place s.places.now s.len s.within c.if-self.true in
    record {
      answer = sym (cond-false (has_free_place s) (Ok tt) (Err c.args.x) full);
      after = sym (cond-false (has_free_place s) (c.args.x ∷ contents s) (contents s) full);
      lent = sym (cond-false (has_free_place s) (set s.places.now s.len c.args.x) s.places.now full);
      unchanged = refl;
      same = refl;
    }

pub returns : goal.returns
returns g c =
    let s = c.args.self.now in
    let x = c.args.x in
    let free = free_place s.places.now s.len c.if-self.false in
    record {
      answer = sym (cond-true (has_free_place s) (Ok tt) (Err x) free);
      after = entries_pushed s.places.now s.len x c.if-self.false ∙ sym (cond-true (has_free_place s) (x ∷ contents s) (contents s) free);
      lent = sym (cond-true (has_free_place s) (set s.places.now s.len x) s.places.now free);
      unchanged = tt;
      same = refl;
    }
