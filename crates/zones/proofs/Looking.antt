-- The topmost edge under a point, one held edge more looked at.
use Rattle.std.proofs.Common.{◌≡◌, ℕ, ◌+◌, ◌<◌, true, false, cond, List, map, length, get_or, take, ℤ, None, sym, ap, ◌∙◌, arith}
use Rattle.std.proofs.lemmas.List.{get_or-map, length-map, take-map}
use Rattle.std.proofs.lemmas.Bool.{cond-true, cond-false}
use Rattle.records.specs.declared.raw.EdgeRecord.{EdgeRecord}
use Rattle.geometry.specs.declared.edge.Edge.{Edge}
use Rattle.geometry.specs.Held.{raw_of}
use Rattle.slabs.specs.Topmost.{is_under, under, higher, topmost}
use Rattle.slabs.proofs.Turns.{highest_under_more}

module _ (px py : ℤ) (edges : List Edge) (i : ℕ) (d : Edge) (below : i < length edges) where
  one_more : topmost px (under px py (map raw_of (take (i + 1) edges))) ≡ cond (is_under px py (raw_of (get_or edges i d))) (higher px (topmost px (under px py (map raw_of (take i edges)))) (raw_of (get_or edges i d))) (topmost px (under px py (map raw_of (take i edges))))
  one_more =
      let among : i < length (map raw_of edges) = omega (arith, length-map edges raw_of) in
      let turn = highest_under_more px py None (map raw_of edges) i (raw_of d) among in
      let it-is = get_or-map raw_of edges i d (raw_of d) below in
      ap (λ (l : List EdgeRecord). topmost px (under px py l)) (sym (take-map raw_of (i + 1) edges)) ∙ turn ∙ ap (λ (e : EdgeRecord). cond (is_under px py e) (higher px (topmost px (under px py (take i (map raw_of edges)))) e) (topmost px (under px py (take i (map raw_of edges))))) it-is ∙ ap (λ (l : List EdgeRecord). cond (is_under px py (raw_of (get_or edges i d))) (higher px (topmost px (under px py l)) (raw_of (get_or edges i d))) (topmost px (under px py l))) (take-map raw_of i edges)

  pub one_more_under : true ≡ is_under px py (raw_of (get_or edges i d)) → higher px (topmost px (under px py (map raw_of (take i edges)))) (raw_of (get_or edges i d)) ≡ topmost px (under px py (map raw_of (take (i + 1) edges)))
  one_more_under t = sym (one_more ∙ cond-true _ _ _ (sym t))

  pub one_more_over : false ≡ is_under px py (raw_of (get_or edges i d)) → topmost px (under px py (map raw_of (take i edges))) ≡ topmost px (under px py (map raw_of (take (i + 1) edges)))
  one_more_over f = sym (one_more ∙ cond-false _ _ _ (sym f))
