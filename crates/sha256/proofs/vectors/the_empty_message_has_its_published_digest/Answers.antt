use Rattle.std.proofs.Common.{refl}
use Rattle.sha256.specs.Compression.{expand, next_word, schedule, step, rounds, compress}
use Rattle.sha256.specs.Standard.{padding, after, sha256}
use Rattle.sha256.proofs.vectors.the_empty_message_has_its_published_digest.Goals as goal

pub returns : goal.returns
unfolding expand next_word schedule step rounds compress padding after sha256
returns c = refl
