use Rattle.std.proofs.Common.{◌≡◌, ◌-◌, true, ◌++◌, take, drop, sym, refl, ap, ◌∙◌, subst}
use Rattle.std.specs.List.{remove}
use Rattle.slices.specs.Order.{rising}
use Rattle.slices.proofs.Removing.{rising_removed}
use Rattle.slices.proofs.Rewriting.{removal_leaves, removed_run, slice_with_place, length_with_place}
use Rattle.slices.proofs.removal.remove.Goals as goal

pub returns : goal.returns
returns g c =
    let slice = c.args.run.now in
    let len = c.args.len in
    let at = c.args.at in
    let place = c.if-at-len.false in
    let within = c.if-len-run.false in
    let left : c.copy_within.new.self ≡ remove (take len slice) at ++ drop (len - 1) slice =
    c.copy_within.ensures.after ∙ removal_leaves slice len at place within in
    let run : take (len - 1) c.copy_within.new.self ≡ remove (take len slice) at =
    ap (take (len - 1)) left ∙ removed_run slice (drop (len - 1) slice) len at place within in
    record {
      answer = sym (length_with_place slice len at place within);
      after = left ∙ sym (slice_with_place slice len at place within);
      place = (place, within, refl);
      removing = run;
      rises = λ at_most h. subst (λ t. rising at_most t ≡ true) (sym run) (rising_removed at_most (take len slice) at h);
    }
