use Rattle.std.proofs.Common.{◌≡◌, ◌<◌, length, get_or, take, Some, None, sym, ap, ◌∙◌, arith}
use Rattle.std.specs.List.{slice_get}
use Rattle.calls.specs.Sheets.{stored_digests}
use Rattle.sheets.proofs.Gathering.{one_stored, none_stored, one_whole, none_whole, digest_at}
use Rattle.sheets.proofs.strings.gather.Goals as goal
use Rattle.sheets.proofs.strings.gather.Goals.{in-Some, in_default}

pub loop-place-preserved : goal.loop-place-preserved
loop-place-preserved c =
    let stored = stored_digests c.args.counted.now in
    let places = c.args.places.now in
    let i = c.loop-place.place-index in
    let place = get_or places i 0 in
    let inside = c.loop-place-test.true in
    elim c.match-get.branch [
      | in-Some w ↦
          let digest = w.digest_of.result in
          let is : slice_get stored place ≡ Some digest = digest_at c.args.counted.now place (Some w.in-Some.shown) w.in-Some.ensures.lookup ∙ ap Some (sym w.digest_of.ensures.stored) in
          let room : c.loop-place.found < length c.loop-place.room = omega (arith, c.requires, c.loop-place.invariant.few, c.loop-place.auto.room, inside) in
          record {
            few = omega (arith, w.found-is, c.loop-place.invariant.few);
            whole = one_whole stored places i digest inside c.loop-place.invariant.whole is w.digest_of.ensures.whole;
            stored = (λ j. take (w.found-is j) (w.room-is j)) ∙ one_stored stored places i c.loop-place.room c.loop-place.found digest inside room c.loop-place.invariant.stored is;
          }
      | in_default w ↦
          let is : slice_get stored place ≡ None = digest_at c.args.counted.now place None w.in_default.ensures.lookup in
          record {
            few = omega (arith, w.found-is, c.loop-place.invariant.few);
            whole = none_whole stored places i inside c.loop-place.invariant.whole is;
            stored = (λ j. take (w.found-is j) (w.room-is j)) ∙ none_stored stored places i c.loop-place.room c.loop-place.found inside c.loop-place.invariant.stored is;
          }
    ]
