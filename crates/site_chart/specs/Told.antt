-- The kind and the numbers of a node whose numbers are fit.
use Rattle.std.specs.Prelude.{List, [], ◌∷◌, ℤ}
use Rattle.records.specs.declared.raw.SiteRecord.{SiteRecord}
use Rattle.node.specs.declared.kind.Kind.{Kind}
use Rattle.node.specs.declared.kind.Kind.TheVariants as kinds
use Rattle.sites.specs.Site.{raw_of}
use Rattle.site_chart.specs.declared.fit.FitNode.{FitNode}
use Rattle.site_chart.specs.declared.fit.FitNode.TheVariants.{Empty, XSpan, YSpan, Site}

abbrev pub site_told : ℤ → ℤ → ℤ → SiteRecord
site_told number x y = record { number = number; x = x; y = y }

abbrev pub kind_of : FitNode → Kind
kind_of Empty = kinds.Empty
kind_of (XSpan span) = kinds.XSpan
kind_of (YSpan span) = kinds.YSpan
kind_of (Site site) = kinds.Site

abbrev pub numbers_of : FitNode → List ℤ
numbers_of Empty = []
numbers_of (XSpan span) = span.least ∷ span.greatest ∷ []
numbers_of (YSpan span) = span.least ∷ span.greatest ∷ []
numbers_of (Site site) = (raw_of site).number ∷ (raw_of site).x ∷ (raw_of site).y ∷ []
