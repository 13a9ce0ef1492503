use Rattle.std.proofs.Common.{None, ap, ◌∙◌, w64, SFits, rules}
use Rattle.std.specs.Option.{option_map}
use Rattle.records.specs.Range.{is_record_number, is_coordinate, kept_by}
use Rattle.records.proofs.Numbers.{from_bits}
use Rattle.sites.specs.Site.{raw_of}
use Rattle.sites.proofs.Made.{made, not_made}
use Rattle.sites.proofs.site.Site.new.Goals as goal

pub returns-in_err-y : goal.returns-in_err-y
returns-in_err-y c =
    let y = c.args.from.y in
    let y-fits : SFits w64 y = search rules in
    ap (option_map raw_of) c.from_residual-in_err-y.ensures ∙ not_made c.args.from (from_bits w64 (kept_by is_coordinate) None y y-fits c.in_err-y.ensures)

pub returns : goal.returns
returns c =
    let from = c.args.from in
    let number_fits : SFits w64 from.number = search rules in
    let x_fits : SFits w64 from.x = search rules in
    let y-fits : SFits w64 from.y = search rules in
    made from _ _ _ (from_bits w64 (kept_by is_record_number) _ from.number number_fits c.in_ok-number.ensures) (from_bits w64 (kept_by is_coordinate) _ from.x x_fits c.in_ok-x.ensures) (from_bits w64 (kept_by is_coordinate) _ from.y y-fits c.in_ok-y.ensures)
