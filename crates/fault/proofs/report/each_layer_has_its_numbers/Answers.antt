use Rattle.fault.proofs.LayerNumbers.{each_layer_has_its_numbers_lem}
use Rattle.fault.proofs.report.each_layer_has_its_numbers.Goals as goal

pub returns : goal.returns
returns c = each_layer_has_its_numbers_lem
