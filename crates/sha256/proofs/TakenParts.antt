-- The state of a digest in the making, from part to part.
use Rattle.std.proofs.Common.{◌≡◌, ℕ, suc, ◌+◌, ◌*◌, ◌/◌, ◌%◌, ◌<◌, ◌≤◌, List, [], ◌++◌, length, take, drop, sym, ap, ◌∙◌, arith}
use Rattle.std.proofs.lemmas.List.{append-nil, length-append, length-take-le, length-drop, take_all, take-append-drop, drop_at, drop_all, drop-append-le}
use Rattle.digest.proofs.Writes.{written}
use Rattle.sha256.specs.Constants.{H⁰}
use Rattle.sha256.specs.Compression.{compress}
use Rattle.sha256.specs.Standard.{after, block_of}
use Rattle.sha256.specs.Parts.{Taken}
use Rattle.sha256.specs.declared.state.Sha256.{Sha256}
use Rattle.sha256.specs.declared.words.Words.{Words}
use Rattle.sha256.proofs.BlockSteps.{after_front, after_rest}

-- The bytes past the whole blocks, with some more behind them.
behind : (bytes few : List ℕ) → drop (64 * (length bytes / 64)) bytes ++ few ≡ drop (64 * (length bytes / 64)) (bytes ++ few)
behind bytes few =
    let within : 64 * (length bytes / 64) ≤ length bytes = omega arith in
    sym (drop-append-le (64 * (length bytes / 64)) bytes few within)

-- Fewer bytes than fill the block.
pub held_more : (s t : Sha256) (bytes few : List ℕ) → Taken s bytes → length bytes % 64 + length few < 64 → length s.pending ≡ 64 → t.words ≡ s.words → t.pending ≡ take (length bytes % 64) s.pending ++ (few ++ drop (length few) (drop (length bytes % 64) s.pending)) → t.size ≡ s.size + length few → Taken t (bytes ++ few)
held_more s t bytes few before room long words pending size =
    let n = length bytes in
    let both : length (bytes ++ few) ≡ n + length few = length-append bytes few in
    let blocks : length (bytes ++ few) / 64 ≡ n / 64 = omega arith in
    let left : length (bytes ++ few) % 64 ≡ n % 64 + length few = omega arith in
    let within : 64 * (n / 64) ≤ n = omega arith in
    record {
      counted = size ∙ ap (λ (k : ℕ). k + length few) before.counted ∙ sym both;
      absorbed =
          words ∙ before.absorbed ∙ sym (after_front H⁰ bytes few (n / 64) within) ∙ ap (after H⁰ (bytes ++ few)) (sym blocks);
      held =
          ap (λ (k : ℕ). take k t.pending) left ∙ ap (take (n % 64 + length few)) pending ∙
          written s.pending few (n % 64) (omega arith) ∙ ap (λ (xs : List ℕ). xs ++ few) before.held ∙
          behind bytes few ∙ ap (λ (k : ℕ). drop (64 * k) (bytes ++ few)) (sym blocks);
    }

-- As many bytes as fill it.
pub held_full : (s t : Sha256) (bytes few : List ℕ) → Taken s bytes → length bytes % 64 + length few ≡ 64 → length s.pending ≡ 64 → t.words ≡ compress s.words t.pending → t.pending ≡ take (length bytes % 64) s.pending ++ (few ++ drop (length few) (drop (length bytes % 64) s.pending)) → t.size ≡ s.size + length few → Taken t (bytes ++ few)
unfolding after
held_full s t bytes few before full long words pending size =
    let n = length bytes in
    let k = n / 64 in
    let all = bytes ++ few in
    let both : length all ≡ n + length few = length-append bytes few in
    let blocks : length all / 64 ≡ suc k = omega arith in
    let left : length all % 64 ≡ 0 = omega arith in
    let within : 64 * k ≤ n = omega arith in
    let past : drop (length few) (drop (n % 64) s.pending) ≡ [] =
    drop_all (length few) (drop (n % 64) s.pending) (omega (arith, length-drop (n % 64) s.pending)) in
    let block-is : t.pending ≡ drop (64 * k) all =
    pending ∙ ap (λ (xs : List ℕ). take (n % 64) s.pending ++ (few ++ xs)) past ∙
    ap (λ (xs : List ℕ). take (n % 64) s.pending ++ xs) (append-nil few) ∙
    ap (λ (xs : List ℕ). xs ++ few) before.held ∙ behind bytes few in
    let few-left : length (drop (64 * k) all) ≤ 64 = omega (arith, length-drop (64 * k) all) in
    let none : drop (64 * suc k) all ≡ [] = drop_all (64 * suc k) all (omega arith) in
    record {
      counted = size ∙ ap (λ (j : ℕ). j + length few) before.counted ∙ sym both;
      absorbed =
          words ∙ ap (compress s.words) (block-is ∙ sym (take_all 64 (drop (64 * k) all) few-left)) ∙
          ap (λ (w : Words). compress w (block_of all k)) (before.absorbed ∙ sym (after_front H⁰ bytes few k within)) ∙
          ap (after H⁰ all) (sym blocks);
      held =
          ap (λ (j : ℕ). take j t.pending) left ∙ sym none ∙ ap (λ (j : ℕ). drop (64 * j) all) (sym blocks);
    }

-- Whole blocks behind whole blocks.
pub blocks_more : (s t : Sha256) (bytes more : List ℕ) (j : ℕ) → Taken s bytes → s.size % 64 ≡ 0 → 64 * j ≤ length more → t.words ≡ after s.words more j → t.size ≡ s.size + 64 * j → Taken t (bytes ++ take (64 * j) more)
blocks_more s t bytes more j before whole enough words size =
    let n = length bytes in
    let k = n / 64 in
    let front = take (64 * j) more in
    let all = bytes ++ front in
    let aligned : n % 64 ≡ 0 = ap (λ (i : ℕ). i % 64) (sym before.counted) ∙ whole in
    let n-is : n ≡ 64 * k = omega arith in
    let front_long : length front ≡ 64 * j = length-take-le (64 * j) more enough in
    let both : length all ≡ n + 64 * j = length-append bytes front ∙ ap (λ (i : ℕ). n + i) front_long in
    let blocks : length all / 64 ≡ k + j = omega arith in
    let left : length all % 64 ≡ 0 = omega arith in
    let rest-is : drop (64 * k) all ≡ front = drop_at bytes front (64 * k) n-is in
    let none : drop (64 * (k + j)) all ≡ [] = drop_all (64 * (k + j)) all (omega arith) in
    let same : after s.words more j ≡ after s.words front j =
    ap (λ (xs : List ℕ). after s.words xs j) (sym (take-append-drop (64 * j) more)) ∙
    after_front s.words front (drop (64 * j) more) j (omega arith) in
    let begun : s.words ≡ after H⁰ all k = before.absorbed ∙ sym (after_front H⁰ bytes front k (omega arith)) in
    record {
      counted = size ∙ ap (λ (i : ℕ). i + 64 * j) before.counted ∙ sym both;
      absorbed =
          words ∙ same ∙ ap (λ (xs : List ℕ). after s.words xs j) (sym rest-is) ∙
          ap (λ (w : Words). after w (drop (64 * k) all) j) begun ∙ after_rest H⁰ all k j ∙ ap (after H⁰ all) (sym blocks);
      held =
          ap (λ (i : ℕ). take i t.pending) left ∙ sym none ∙ ap (λ (i : ℕ). drop (64 * i) all) (sym blocks);
    }
