use Rattle.geometry.proofs.Parts.{fits, stored, read_product_reads}
use Rattle.geometry.proofs.fraction.order.scaled.Goals as goal

pub overflow_mul-result : goal.overflow_mul-result
overflow_mul-result c = fits (read_product_reads c.args.first c.args.second) tt

pub returns : goal.returns
returns c = (stored (read_product_reads c.args.first c.args.second) tt).is
