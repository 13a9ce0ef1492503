use Rattle.std.proofs.Common.{ℕ, refl, ◌∙◌, subst}
use Rattle.script.specs.Growth.{Finished}
use Rattle.script.proofs.Growing.{appended}
use Rattle.script.proofs.write.write_line.Goals as goal

pub returns-clause-line : goal.returns-clause-line
returns-clause-line g c =
    λ text puts.
    appended c.args.out.now c.append-written.new.arg2 c.finish_line.new.out text c.len-start.result c.append-written.result c.finish_line.result (c.len-start.ensures ∙ c.args.out.now.ok.0)
    (puts _ _ (record { shown = _; shows = refl; left = _; met = c.append-written.ensures; leaves = refl }))
    c.finish_line.ensures

pub returns-clause-whole : goal.returns-clause-whole
returns-clause-whole g c =
    record {
      written = c.append-written.result;
      between = c.append-written.new.arg2;
      left = record { shown = _; shows = refl; left = _; met = c.append-written.ensures; leaves = refl };
      finished = subst (λ (n : ℕ). Finished c.append-written.new.arg2 n c.append-written.result c.finish_line.result c.finish_line.new.out) (c.len-start.ensures ∙ c.args.out.now.ok.0) c.finish_line.ensures;
    }
