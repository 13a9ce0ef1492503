-- The state of a digest in the making, from part to part.
use Rattle.std.proofs.Common.{◌≡◌, ℕ, zero, suc, ◌+◌, ◌-◌, ◌*◌, ◌/◌, ◌%◌, ◌<◌, ◌≤◌, false, List, ◌++◌, length, take, drop, sym, refl, ap, ◌∙◌, arith}
use Rattle.std.proofs.lemmas.List.{length-append, length-drop, take_at, take_all, take-append-le, drop_at, drop-drop, drop-append-le}
use Rattle.digest.proofs.Writes.{written}
use Rattle.blake2s.specs.Mixing.{F}
use Rattle.blake2s.specs.Standard.{after, block_of, earlier}
use Rattle.blake2s.specs.Parts.{Taken, Flushed}
use Rattle.blake2s.specs.declared.state.Blake2s.{Blake2s}

-- The first k blocks do not see what comes behind them.
pub after_front : (xs ys : List ℕ) (k : ℕ) → 64 * k ≤ length xs → after (xs ++ ys) k ≡ after xs k
unfolding after
after_front xs ys zero within = refl
after_front xs ys (suc k) within =
    let next : 64 * k + 64 ≤ length xs = omega arith in
    let room : 64 ≤ length (drop (64 * k) xs) = omega (arith, length-drop (64 * k) xs) in
    ap (λ (v : List ℕ). F v (block_of (xs ++ ys) k) (64 * (k + 1)) false) (after_front xs ys k (omega arith)) ∙
    ap (λ (bs : List ℕ). F (after xs k) (take 64 bs) (64 * (k + 1)) false) (drop-append-le (64 * k) xs ys (omega arith)) ∙
    ap (λ (b : List ℕ). F (after xs k) b (64 * (k + 1)) false) (take-append-le 64 (drop (64 * k) xs) ys room)

-- A few bytes behind those pending.
pub held_more : (s t : Blake2s) (bytes few : List ℕ) → Taken s bytes → length bytes - 64 * earlier bytes + length few ≤ 64 → length s.pending ≡ 64 → t.words ≡ s.words → t.pending ≡ take (length bytes - 64 * earlier bytes) s.pending ++ (few ++ drop (length few) (drop (length bytes - 64 * earlier bytes) s.pending)) → t.size ≡ s.size + length few → Taken t (bytes ++ few)
held_more s t bytes few before room long words pending size =
    let n = length bytes in
    let k = (length bytes - 1) / 64 in
    let all = bytes ++ few in
    let both : length (bytes ++ few) ≡ length bytes + length few = length-append bytes few in
    let blocks : (length (bytes ++ few) - 1) / 64 ≡ (length bytes - 1) / 64 = omega arith in
    let within : 64 * ((length bytes - 1) / 64) ≤ length bytes = omega arith in
    let left : length (bytes ++ few) - 64 * ((length (bytes ++ few) - 1) / 64) ≡ length bytes - 64 * ((length bytes - 1) / 64) + length few = omega arith in
    record {
      counted = size ∙ ap (λ (i : ℕ). i + length few) before.counted ∙ sym both;
      absorbed = words ∙ before.absorbed ∙ sym (after_front bytes few k within) ∙ ap (after all) (sym blocks);
      held =
          ap (λ (i : ℕ). take i t.pending) left ∙ ap (take (n - 64 * k + length few)) pending ∙
          written s.pending few (n - 64 * k) (omega arith) ∙ ap (λ (xs : List ℕ). xs ++ few) before.held ∙
          sym (drop-append-le (64 * k) bytes few within) ∙ ap (λ (i : ℕ). drop (64 * i) all) (sym blocks);
    }

-- Nothing to absorb before the first byte.
pub flushed_none : (s : Blake2s) (bytes : List ℕ) → Taken s bytes → s.size ≡ 0 → Flushed s bytes
flushed_none s bytes before none =
    let n-is : length bytes ≡ 0 = sym before.counted ∙ none in
    let blocks : (length bytes - 1) / 64 ≡ length bytes / 64 = omega arith in
    record {
      counted = before.counted;
      whole = omega arith;
      absorbed = before.absorbed ∙ ap (after bytes) blocks;
    }

-- A whole block absorbed.
pub flushed_block : (s t : Blake2s) (bytes : List ℕ) → Taken s bytes → s.size % 64 ≡ 0 → 0 < s.size → length s.pending ≡ 64 → t.words ≡ F s.words s.pending s.size false → t.size ≡ s.size → Flushed t bytes
unfolding after
flushed_block s t bytes before whole some long words size =
    let k = (length bytes - 1) / 64 in
    let n-is = before.counted in
    let all_blocks : length bytes / 64 ≡ suc ((length bytes - 1) / 64) = omega arith in
    let cut : length bytes - 64 * ((length bytes - 1) / 64) ≡ 64 = omega arith in
    let count : s.size ≡ 64 * ((length bytes - 1) / 64 + 1) = omega arith in
    let few : length (drop (64 * k) bytes) ≤ 64 = omega (arith, length-drop (64 * ((length bytes - 1) / 64)) bytes) in
    let block-is : s.pending ≡ block_of bytes k =
    sym (take_all 64 s.pending (omega arith)) ∙ ap (λ (i : ℕ). take i s.pending) (sym cut) ∙ before.held ∙
    sym (take_all 64 (drop (64 * k) bytes) few) in
    record {
      counted = size ∙ before.counted;
      whole = omega arith;
      absorbed =
          words ∙ ap (λ (v : List ℕ). F v s.pending s.size false) before.absorbed ∙
          ap (λ (b : List ℕ). F (after bytes k) b s.size false) block-is ∙
          ap (λ (i : ℕ). F (after bytes k) (block_of bytes k) i false) count ∙ ap (after bytes) (sym all_blocks);
    }

-- The rest of a part, where nothing is pending.
pub rest_more : (s t : Blake2s) (bytes rest tail past : List ℕ) → Flushed s bytes → 0 < length rest → ((message : List ℕ) (k : ℕ) → s.size ≡ 64 * k → s.words ≡ after message k → rest ≡ drop (64 * k) message → t.words ≡ after message (k + earlier rest)) → tail ≡ drop (64 * earlier rest) rest → t.pending ≡ tail ++ past → t.size ≡ s.size + length rest → Taken t (bytes ++ rest)
rest_more s t bytes rest tail past before some words tail-is pending size =
    let k = length bytes / 64 in
    let j = (length rest - 1) / 64 in
    let all = bytes ++ rest in
    let both : length (bytes ++ rest) ≡ length bytes + length rest = length-append bytes rest in
    let whole : length bytes % 64 ≡ 0 = before.whole in
    let n-is : length bytes ≡ 64 * (length bytes / 64) = omega arith in
    let blocks : (length (bytes ++ rest) - 1) / 64 ≡ length bytes / 64 + (length rest - 1) / 64 = omega arith in
    let rest-is : rest ≡ drop (64 * k) all = sym (drop_at bytes rest (64 * k) n-is) in
    let begun : s.words ≡ after all k = before.absorbed ∙ sym (after_front bytes rest k (omega arith)) in
    let done = words all k (before.counted ∙ n-is) begun rest-is in
    let tail-long : length tail ≡ length rest - 64 * ((length rest - 1) / 64) =
    ap length tail-is ∙ length-drop (64 * j) rest in
    let left : length (bytes ++ rest) - 64 * ((length (bytes ++ rest) - 1) / 64) ≡ length tail = omega arith in
    let place : 64 * k + 64 * j ≡ 64 * ((length (bytes ++ rest) - 1) / 64) = omega arith in
    record {
      counted = size ∙ ap (λ (i : ℕ). i + length rest) before.counted ∙ sym both;
      absorbed = done ∙ ap (after all) (sym blocks);
      held =
          ap (λ (i : ℕ). take i t.pending) left ∙ ap (take (length tail)) pending ∙ take_at tail past (length tail) refl ∙
          tail-is ∙ ap (drop (64 * j)) rest-is ∙ drop-drop (64 * j) (64 * k) all ∙ ap (λ (i : ℕ). drop i all) place;
    }
