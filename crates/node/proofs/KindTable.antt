-- The table of kinds, case by case.
use Rattle.std.proofs.Common.{refl, lit≤}
use Rattle.node.specs.Kinds.{ShapesAreSmall, NumbersNameKinds}
use Rattle.node.specs.declared.kind.Kind.TheVariants.{Empty, Split, Edge, Zone, XSpan, YSpan, Site}

pub shapes_are_small_lem : ShapesAreSmall
shapes_are_small_lem Empty = (lit≤ tt, lit≤ tt)
shapes_are_small_lem Split = (lit≤ tt, lit≤ tt)
shapes_are_small_lem Edge = (lit≤ tt, lit≤ tt)
shapes_are_small_lem Zone = (lit≤ tt, lit≤ tt)
shapes_are_small_lem XSpan = (lit≤ tt, lit≤ tt)
shapes_are_small_lem YSpan = (lit≤ tt, lit≤ tt)
shapes_are_small_lem Site = (lit≤ tt, lit≤ tt)

pub numbers_name_kinds_lem : NumbersNameKinds
numbers_name_kinds_lem Empty = refl
numbers_name_kinds_lem Split = refl
numbers_name_kinds_lem Edge = refl
numbers_name_kinds_lem Zone = refl
numbers_name_kinds_lem XSpan = refl
numbers_name_kinds_lem YSpan = refl
numbers_name_kinds_lem Site = refl
