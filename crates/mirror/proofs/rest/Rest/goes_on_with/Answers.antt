use Rattle.std.proofs.Common.{◌∙◌}
use Rattle.mirror.proofs.Beginning.{begins_with}
use Rattle.mirror.proofs.rest.Rest.goes_on_with.Goals as goal

pub returns : goal.returns
returns c = c.starts_with.ensures.value ∙ begins_with c.args.self.now.proof.now c.args.string.now c.args.self.now.at
