-- FIPS 180-4, section 6.2.2: what a block does to the hash value.
use Rattle.std.specs.Prelude.{ℕ, zero, suc, ◌+◌, ◌-◌, ◌*◌, ◌^◌, cond, List, [], ◌∷◌, ◌++◌, nat_lt, slice_index}
use Rattle.sha256.specs.Constants.{K}
use Rattle.sha256.specs.Functions.{plus, Ch, Maj, Σ0, Σ1, σ0, σ1}
use Rattle.sha256.specs.declared.words.Words.{Words}

-- Section 5.2.1: the word t of a block of 64 bytes, most significant byte first (section 3.1).
abbrev pub word_of : List ℕ → ℕ → ℕ
word_of block t =
    slice_index block (4 * t) * 2 ^ 24 + slice_index block (4 * t + 1) * 2 ^ 16 + slice_index block (4 * t + 2) * 2 ^ 8 +
    slice_index block (4 * t + 3)

-- Step 1: the word t of the message schedule is the block's own below 16, and then comes from those 2, 7, 15 and 16
-- places before it.
unfoldable pub expand : ℕ → ℕ → ℕ → ℕ → ℕ
expand back2 back7 back15 back16 = plus (plus (plus (σ1 back2) back7) (σ0 back15)) back16

unfoldable pub next_word : List ℕ → ℕ → List ℕ → ℕ
next_word block t ws =
    cond (nat_lt t 16) (word_of block t)
    (expand (slice_index ws (t - 2)) (slice_index ws (t - 7)) (slice_index ws (t - 15)) (slice_index ws (t - 16)))

abbrev pub extended : List ℕ → ℕ → List ℕ → List ℕ
extended block t ws = ws ++ (next_word block t ws ∷ [])

-- The first t words of the schedule.
unfoldable pub schedule : List ℕ → ℕ → List ℕ
schedule block zero = []
schedule block (suc t) = extended block t (schedule block t)

-- Step 3: a round with the constant k and the schedule's word w.
abbrev pub T₁ : Words → ℕ → ℕ → ℕ
T₁ v k w = plus (plus (plus (plus v.h (Σ1 v.e)) (Ch v.e v.f v.g)) k) w

abbrev pub T₂ : Words → ℕ
T₂ v = plus (Σ0 v.a) (Maj v.a v.b v.c)

unfoldable pub step : Words → ℕ → ℕ → Words
step v k w =
    record {
      a = plus (T₁ v k w) (T₂ v);
      b = v.a;
      c = v.b;
      d = v.c;
      e = plus v.d (T₁ v k w);
      f = v.e;
      g = v.f;
      h = v.g;
    }

-- Steps 2 and 3: the working variables after t rounds, with the words ws of the schedule.
unfoldable pub rounds : Words → List ℕ → ℕ → Words
rounds h ws zero = h
rounds h ws (suc t) = step (rounds h ws t) (slice_index K t) (slice_index ws t)

-- Step 4.
abbrev pub added : Words → Words → Words
added x y =
    record {
      a = plus x.a y.a;
      b = plus x.b y.b;
      c = plus x.c y.c;
      d = plus x.d y.d;
      e = plus x.e y.e;
      f = plus x.f y.f;
      g = plus x.g y.g;
      h = plus x.h y.h;
    }

unfoldable pub compress : Words → List ℕ → Words
compress h block = added h (rounds h (schedule block 64) 64)
