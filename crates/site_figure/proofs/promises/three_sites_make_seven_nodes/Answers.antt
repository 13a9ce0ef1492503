use Rattle.std.proofs.Common.{refl}
use Rattle.site_figure.proofs.promises.three_sites_make_seven_nodes.Goals as goal

pub returns : goal.returns
returns c =
    record {
      figure = refl;
      visits = (record { strings_are = refl; bytes_are = refl; emits = refl }, record { strings_are = refl; bytes_are = refl; emits = refl });
    }
