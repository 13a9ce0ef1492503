-- Digests put into the records of a figure one after another.
use Rattle.std.proofs.Common.{◌≡◌, ℕ, suc, ◌+◌, ◌<◌, ◌≤◌, List, [], ◌∷◌, ◌++◌, map, length, get_or, take, drop, set, Some, Ok, Err, Result, sym, refl, ap, ◌∙◌, append_assoc, append-nil, arith}
use Rattle.std.specs.List.{slice_get, AllByRecursion}
use Rattle.std.proofs.ByRecursion.{All-weaker}
use Rattle.std.proofs.lemmas.List.{map-append, length-map, length-take-le, take-append-drop, take_all, drop_all, drop_more, take_more, set_at, get_or_at}
use Rattle.std.proofs.lemmas.Option.{slice_get-get_or}
use Rattle.node.specs.Strings.{string_of}
use Rattle.reader.specs.Reading.{map_ok}
use Rattle.refusal.specs.declared.Refusal.{Refusal}
use Rattle.search.specs.declared.sheet.SheetRecord.{SheetRecord}
use Rattle.search.specs.Node.{Node}
use Rattle.search.specs.Picks.{picks}
use Rattle.search.specs.Judging.{Judging}
use Rattle.search.specs.Figure.{IsFigure, Sound}
use Rattle.search.specs.Honest.{string_in, digests_from, digests_of}
use Rattle.calls.proofs.Chains.{ok_same, not_ok}
use Rattle.calls.proofs.Digests.{length_digests}
use Rattle.calls.proofs.Picking.{picks_left}
use Rattle.calls.proofs.Strings.{sound_there}
use Rattle.calls.specs.Publishing.{with_digest, with_digests}
use Rattle.calls.specs.Sheets.{node_in, nodes_of, sound_at, stored_digests}

-- one more node's digest
digests_push : (hash : List ℕ → List ℕ) (before : List (List ℕ)) (nodes : List Node) (node : Node)
    → digests_from hash before (nodes ++ node ∷ []) ≡ digests_from hash before nodes ++ hash (string_in (digests_from hash before nodes) node) ∷ []
digests_push hash before [] node = refl
digests_push hash before (n ∷ nodes) node = digests_push hash (before ++ hash (string_in before n) ∷ []) nodes node

-- records with their digests
length_with : (rs : List SheetRecord) (ds : List (List ℕ)) → length ds ≡ length rs → length (with_digests rs ds) ≡ length rs
length_with [] ds h = refl
length_with (r ∷ rs) [] h = absurd (omega (arith, h))
length_with (r ∷ rs) (d ∷ ds) h = ap suc (length_with rs ds (omega (arith, h)))

with_push : (rs : List SheetRecord) (ds : List (List ℕ)) (r : SheetRecord) (d : List ℕ) → length ds ≡ length rs → with_digests (rs ++ r ∷ []) (ds ++ d ∷ []) ≡ with_digests rs ds ++ with_digest r d ∷ []
with_push [] [] r d h = refl
with_push [] (x ∷ ds) r d h = absurd (omega (arith, h))
with_push (x ∷ rs) [] r d h = absurd (omega (arith, h))
with_push (x ∷ rs) (e ∷ ds) r d h = ap (λ t. with_digest x e ∷ t) (with_push rs ds r d (omega (arith, h)))

digests_with : (rs : List SheetRecord) (ds : List (List ℕ)) → length ds ≡ length rs → map (λ r. r.digest) (with_digests rs ds) ≡ ds
digests_with [] [] h = refl
digests_with [] (d ∷ ds) h = absurd (omega (arith, h))
digests_with (r ∷ rs) [] h = absurd (omega (arith, h))
digests_with (r ∷ rs) (d ∷ ds) h = ap (λ t. d ∷ t) (digests_with rs ds (omega (arith, h)))

nodes_with : {Q : Type 0} (judging : Judging Q) (rs : List SheetRecord) (ds : List (List ℕ)) → length ds ≡ length rs → map (node_in judging) (with_digests rs ds) ≡ map (node_in judging) rs
nodes_with judging [] ds h = refl
nodes_with judging (r ∷ rs) [] h = absurd (omega (arith, h))
nodes_with judging (r ∷ rs) (d ∷ ds) h = ap (λ t. node_in judging r ∷ t) (nodes_with judging rs ds (omega (arith, h)))

module _ {Q : Type 0} (judging : Judging Q) (hash : List ℕ → List ℕ) (entry : List SheetRecord) where
  abbrev nodes : List Node
  nodes = nodes_of judging entry

  abbrev digests_up_to : ℕ → List (List ℕ)
  digests_up_to place = digests_of hash (take place nodes)

  -- the records once those before a place have their digests
  abbrev pub stored_up_to : ℕ → List SheetRecord
  stored_up_to place = with_digests (take place entry) (digests_up_to place) ++ drop place entry

  length_nodes : length nodes ≡ length entry
  length_nodes = length-map entry (node_in judging)

  module _ (place : ℕ) (counted : place < length entry) where
    length_digests_there : length (digests_up_to place) ≡ place
    length_digests_there = length_digests hash (take place nodes) ∙ length-take-le place nodes (omega (arith, length_nodes))

    as_long : length (digests_up_to place) ≡ length (take place entry)
    as_long = length_digests_there ∙ sym (length-take-le place entry (omega arith))

    nodes_stay : nodes_of judging (stored_up_to place) ≡ nodes
    nodes_stay =
        map-append (node_in judging) (with_digests (take place entry) (digests_up_to place)) (drop place entry)
        ∙ ap (λ t. t ++ map (node_in judging) (drop place entry)) (nodes_with judging (take place entry) (digests_up_to place) as_long)
        ∙ sym (map-append (node_in judging) (take place entry) (drop place entry))
        ∙ ap (map (node_in judging)) (take-append-drop place entry)

    abbrev digests_behind : List (List ℕ)
    digests_behind = stored_digests (drop place entry)

    digests_there : stored_digests (stored_up_to place) ≡ digests_up_to place ++ digests_behind
    digests_there =
        map-append (λ (r : SheetRecord). r.digest) (with_digests (take place entry) (digests_up_to place)) (drop place entry)
        ∙ ap (λ t. t ++ digests_behind) (digests_with (take place entry) (digests_up_to place) as_long)

    module _ (figure : IsFigure judging nodes) (d : Node) where
      abbrev node : Node
      node = get_or nodes place d

      there : slice_get nodes place ≡ Some node
      there = slice_get-get_or nodes place d (omega (arith, length_nodes))

      sound : Sound judging place node
      sound = figure.sound place node there

      same_string : string_in (stored_digests (stored_up_to place)) node ≡ string_in (digests_up_to place) node
      same_string =
          let before : AllByRecursion (λ p. p < length (digests_up_to place)) node.successors =
          All-weaker (λ p. p < place) (λ p. p < length (digests_up_to place)) (λ p h. omega (arith, length_digests_there)) node.successors sound.before in
          ap (string_of node.kind node.numbers)
          (ap (λ t. picks t node.successors) digests_there ∙ picks_left (digests_up_to place) digests_behind node.successors before)

      -- what is computed there
      computed : map_ok (λ n. hash (string_in (stored_digests (stored_up_to place)) n)) (sound_at judging (nodes_of judging (stored_up_to place)) place) ≡ Ok (hash (string_in (digests_up_to place) node))
      computed =
          ap (λ t. map_ok (λ n. hash (string_in (stored_digests (stored_up_to place)) n)) (sound_at judging t place)) nodes_stay
          ∙ ap (map_ok (λ n. hash (string_in (stored_digests (stored_up_to place)) n))) (sound_there judging nodes place node there sound)
          ∙ ap (λ t. Ok (hash t)) same_string

      -- and stored
      stored : (blank : SheetRecord) → set (stored_up_to place) place (with_digest (get_or (stored_up_to place) place blank) (hash (string_in (digests_up_to place) node))) ≡ stored_up_to (place + 1)
      stored blank =
          let front = with_digests (take place entry) (digests_up_to place) in
          let digest = hash (string_in (digests_up_to place) node) in
          let shown = get_or entry place blank in
          let long : length front ≡ place = length_with (take place entry) (digests_up_to place) as_long ∙ length-take-le place entry (omega arith) in
          let split : stored_up_to place ≡ front ++ shown ∷ drop (place + 1) entry = ap (λ t. front ++ t) (drop_more entry place blank counted) in
          let read : get_or (stored_up_to place) place blank ≡ shown = ap (λ t. get_or t place blank) split ∙ get_or_at front shown (drop (place + 1) entry) blank place long in
          let more : digests_up_to (place + 1) ≡ digests_up_to place ++ digest ∷ [] = ap (digests_of hash) (take_more nodes place d (omega (arith, length_nodes))) ∙ digests_push hash [] (take place nodes) node in
          (λ i. set (split i) place (with_digest (read i) digest))
          ∙ set_at front shown (drop (place + 1) entry) (with_digest shown digest) place long
          ∙ sym (append_assoc front (with_digest shown digest ∷ []) (drop (place + 1) entry))
          ∙ ap (λ t. t ++ drop (place + 1) entry) (sym (with_push (take place entry) (digests_up_to place) shown digest as_long) ∙ (λ i. with_digests (sym (take_more entry place blank counted) i) (sym more i)))

      module _ (now : List SheetRecord) (so_far : now ≡ stored_up_to place) where
        abbrev answer : List SheetRecord → Result (List ℕ) Refusal
        answer sheet = map_ok (λ n. hash (string_in (stored_digests sheet) n)) (sound_at judging (nodes_of judging sheet) place)

        pub never_refused : (refusal : Refusal) → Err refusal ≡ answer now → ⊥
        never_refused refusal is = not_ok refusal (hash (string_in (digests_up_to place) node)) (is ∙ ap answer so_far ∙ computed)

        pub next : (blank : SheetRecord) (digest : List ℕ) → Ok digest ≡ answer now → set now place (with_digest (get_or now place blank) digest) ≡ stored_up_to (place + 1)
        next blank digest is =
            let same : digest ≡ hash (string_in (digests_up_to place) node) = ok_same digest (hash (string_in (digests_up_to place) node)) (is ∙ ap answer so_far ∙ computed) in
            (λ i. set (so_far i) place (with_digest (get_or (so_far i) place blank) (same i))) ∙ stored blank

  -- at the end
  pub all_stored : (place : ℕ) → length entry ≤ place → stored_up_to place ≡ with_digests entry (digests_of hash nodes)
  all_stored place h =
      (λ i. with_digests (take_all place entry h i) (digests_of hash (take_all place nodes (omega (arith, length_nodes)) i)) ++ drop_all place entry h i)
      ∙ append-nil (with_digests entry (digests_of hash nodes))
