-- The digests of a figure: at each place the hash of the string of the node there.
use Rattle.std.proofs.Common.{◌≡◌, ℕ, zero, suc, ◌+◌, ◌<◌, List, [], ◌∷◌, ◌++◌, length, Some, sym, ap, ◌∙◌, subst, append_assoc, arith, length-append}
use Rattle.std.specs.List.{slice_get, AllByRecursion}
use Rattle.std.proofs.ByRecursion.{All-push, All-weaker}
use Rattle.std.proofs.lemmas.List.{append-nil}
use Rattle.node.specs.Sizes.{IsDigest}
use Rattle.node.specs.Strings.{string_of}
use Rattle.search.specs.Node.{Node}
use Rattle.search.specs.Judging.{Judging}
use Rattle.search.specs.Figure.{IsFigure}
use Rattle.search.specs.Honest.{string_in, digests_from, digests_of, HasDigests}
use Rattle.search.proofs.Places.{not_both, some_same, nth_before, nth_end}
use Rattle.calls.proofs.Picking.{picks_left}

module _ (hash : List ℕ → List ℕ) where
  length_from : (before : List (List ℕ)) (nodes : List Node) → length (digests_from hash before nodes) ≡ length before + length nodes
  length_from before [] = omega arith
  length_from before (n ∷ nodes) =
      let e = length_from (before ++ hash (string_in before n) ∷ []) nodes in
      omega (arith, e, length-append before (hash (string_in before n) ∷ []))

  all_from : HasDigests hash → (before : List (List ℕ)) (nodes : List Node) → AllByRecursion IsDigest before → AllByRecursion IsDigest (digests_from hash before nodes)
  all_from are before [] h = h
  all_from are before (n ∷ nodes) h =
      all_from are (before ++ hash (string_in before n) ∷ []) nodes (All-push IsDigest before (hash (string_in before n)) h (are (string_in before n)))

  -- those done before stand first
  begins_with : (before : List (List ℕ)) (nodes : List Node) → (rest : List (List ℕ)) × (digests_from hash before nodes ≡ before ++ rest)
  begins_with before [] = ([], sym (append-nil before))
  begins_with before (n ∷ nodes) =
      let later = begins_with (before ++ hash (string_in before n) ∷ []) nodes in
      (hash (string_in before n) ∷ later.0, later.1 ∙ append_assoc before (hash (string_in before n) ∷ []) later.0)

  string_kept : (before : List (List ℕ)) (nodes : List Node) (n : Node) → AllByRecursion (λ p. p < length before) n.successors → string_in (digests_from hash before nodes) n ≡ string_in before n
  string_kept before nodes n h =
      let first = begins_with before nodes in
      ap (λ (t : List (List ℕ)). string_in t n) first.1 ∙ ap (string_of n.kind n.numbers) (picks_left before first.0 n.successors h)

  nth_from : (before : List (List ℕ)) (nodes : List Node) (i : ℕ) (n : Node) → slice_get nodes i ≡ Some n → AllByRecursion (λ p. p < length before + i) n.successors
      → slice_get (digests_from hash before nodes) (length before + i) ≡ Some (hash (string_in (digests_from hash before nodes) n))
  nth_from before [] i n at h = absurd (not_both n at)
  nth_from before (m ∷ nodes) zero n at h =
      let digest = hash (string_in before m) in
      let first = begins_with (before ++ digest ∷ []) nodes in
      let here : length before + 0 ≡ length before = omega arith in
      let stands : slice_get (digests_from hash before (m ∷ nodes)) (length before) ≡ Some digest =
      ap (λ (t : List (List ℕ)). slice_get t (length before)) first.1 ∙ nth_before (before ++ digest ∷ []) first.0 (length before) digest (nth_end before digest) in
      let same = string_kept before (m ∷ nodes) m (subst (λ (x : Node). AllByRecursion (λ p. p < length before) x.successors) (sym (some_same m n at)) (All-weaker (λ p. p < length before + 0) (λ p. p < length before) (λ p k. omega arith) n.successors h)) in
      ap (slice_get (digests_from hash before (m ∷ nodes))) here ∙ stands ∙ ap (λ (s : List ℕ). Some (hash s)) (sym same) ∙ ap (λ (x : Node). Some (hash (string_in (digests_from hash before (m ∷ nodes)) x))) (some_same m n at)
  nth_from before (m ∷ nodes) (suc i) n at h =
      let before' = before ++ hash (string_in before m) ∷ [] in
      let there : length before + suc i ≡ length before' + i = omega (arith, length-append before (hash (string_in before m) ∷ [])) in
      ap (slice_get (digests_from hash before' nodes)) there ∙ nth_from before' nodes i n at (subst (λ (k : ℕ). AllByRecursion (λ p. p < k) n.successors) there h)

  pub length_digests : (figure : List Node) → length (digests_of hash figure) ≡ length figure
  length_digests figure = omega (arith, length_from [] figure)

  pub all_digests : HasDigests hash → (figure : List Node) → AllByRecursion IsDigest (digests_of hash figure)
  all_digests are figure = all_from are [] figure tt

  pub nth_digest : {Q : Type 0} (judging : Judging Q) (figure : List Node) → IsFigure judging figure → (place : ℕ) (n : Node) → slice_get figure place ≡ Some n
      → slice_get (digests_of hash figure) place ≡ Some (hash (string_in (digests_of hash figure) n))
  nth_digest judging figure is place n at =
      let zero-plus : 0 + place ≡ place = omega arith in
      ap (slice_get (digests_of hash figure)) (sym zero-plus) ∙ nth_from [] figure place n at (All-weaker (λ p. p < place) (λ p. p < 0 + place) (λ p k. omega arith) n.successors (is.sound place n at).before)
