-- What a held edge or fraction stands for.
use Rattle.std.specs.Prelude.{pos}
use Rattle.records.specs.declared.raw.EdgeRecord.{EdgeRecord}
use Rattle.geometry.specs.declared.edge.Edge.{Edge}
use Rattle.geometry.specs.declared.fraction.Fraction.{Fraction}
use Rattle.geometry.specs.Fraction.{Ratio}

abbrev pub raw_of : Edge → EdgeRecord
raw_of e =
    record {
      number = pos e.number.value;
      x1 = e.x1.value;
      y1 = e.y1.value;
      x2 = e.x2.value;
      y2 = e.y2.value;
      zone = pos e.zone;
    }

abbrev pub ratio_of : Fraction → Ratio
ratio_of f = record { over = f.over; under = f.under }
