use Rattle.std.proofs.Common.{sym, ◌∙◌}
use Rattle.script.proofs.Growing.{not_ended, not_written}
use Rattle.script.proofs.write.finish_line.Goals as goal
use Rattle.script.proofs.write.finish_line.Goals.{else-is_ok-via-then-is_ok+else-is_ok-2, else-is_ok-via-else-is_ok}

pub returns : goal.returns
returns c =
    elim c.else-is_ok.branch [
      | else-is_ok-via-then-is_ok+else-is_ok-2 w ↦
          not_ended c.args.out.now c.else-is_ok.out w.extend_from_slice.new.self c.truncate.new.self c.args.start c.args.written w.extend_from_slice.result _ c.args.out.now.ok.0
          (sym w.is_ok-then-is_ok.ensures.value ∙ w.if-is_ok-2.false)
          w.extend_from_slice.ensures.items w.extend_from_slice.ensures.full w.out-is c.truncate.ensures.items
      | else-is_ok-via-else-is_ok w ↦
          not_written c.args.out.now c.else-is_ok.out c.truncate.new.self c.args.start c.args.written _ (sym c.is_ok.ensures.value ∙ w.if-is_ok.false) w.out-is c.truncate.ensures.items
    ]
