-- The table of commands of the calls: which words make up each, and what it says.
use Rattle.std.specs.Prelude.{ℕ, cond, List, [], ◌∷◌, length, pos, Some, None, codes, Option, nat_lt, unsigned_abs}
use Rattle.std.specs.Option.{option_map}
use Rattle.std.specs.Str.{bytes_eq}
use Rattle.records.specs.Range.{within}
use Rattle.script.specs.declared.command.ChartKind.{ChartKind}
use Rattle.script.specs.declared.command.ChartKind.TheVariants.{Zone, Site}
use Rattle.script.specs.Number.{and_then, number_of}
use Rattle.script.specs.Words.{words_of}
use Rattle.script.specs.Fields.{at_end, first_point, first_rectangle}
use Rattle.byte_commands.specs.Read.{with_hex}
use Rattle.call_commands.specs.declared.command.Question.{Question}
use Rattle.call_commands.specs.declared.command.Question.TheVariants.{At, Within}
use Rattle.call_commands.specs.Asked.{Asked, publish, adopt_latest, adopt_nth, adopt_root, prove, check, cross_check, ask}

abbrev pub first_question : ChartKind → List (List ℕ) → Option (Question × List (List ℕ))
first_question Zone words = option_map (λ p. (At p.0, p.1)) (first_point words)
first_question Site words = option_map (λ p. (Within p.0, p.1)) (first_rectangle words)

-- A command that goes on with a question.
abbrev pub with_question : {X : Type 0} → ChartKind → List (List ℕ) → (Question → List (List ℕ) → Option X) → Option X
with_question kind words step = and_then (first_question kind words) (λ p. step p.0 p.1)

-- A number from 0 to the most that it may be.
abbrev pub count_in : ℕ → List ℕ → Option ℕ
count_in most word = and_then (number_of word) (λ n. cond (within (pos 0) (pos most) n) (Some (unsigned_abs n)) None)

-- The last word as such a number.
abbrev pub last_count : ℕ → List (List ℕ) → Option ℕ
last_count most [] = None
last_count most (word ∷ rest) = and_then (count_in most word) (at_end rest)

-- room N, or the usual room where nothing is said
abbrev pub room_of : ℕ → ℕ → List (List ℕ) → Option ℕ
room_of usual most [] = Some usual
room_of usual most (word ∷ rest) = cond (bytes_eq word (codes "room")) (last_count most rest) None

-- publish, publish ROOM
abbrev pub read_publish : List (List ℕ) → Option Asked
read_publish [] = Some (publish 8192)
read_publish (word ∷ rest) = and_then (count_in 65536 word) (λ room. at_end rest (publish room))

abbrev pub read_root : List (List ℕ) → Option Asked
read_root words = with_hex words (λ root after. at_end after (adopt_root root))

abbrev pub read_nth : List ℕ → List (List ℕ) → Option Asked
read_nth word rest = and_then (number_of word) (λ n. at_end rest (adopt_nth n))

-- adopt, adopt K, adopt root HEX
abbrev pub read_adopt : List (List ℕ) → Option Asked
read_adopt [] = Some adopt_latest
read_adopt (word ∷ rest) =
    cond (bytes_eq word (codes "root"))
    (read_root rest)
    (read_nth word rest)

-- prove QUESTION, prove QUESTION room N
abbrev pub read_prove : ChartKind → List (List ℕ) → Option Asked
read_prove kind words = with_question kind words (λ question rest. option_map (prove question) (room_of 65535 100000 rest))

-- check QUESTION HEX, check QUESTION HEX room N
abbrev pub read_check : ChartKind → List (List ℕ) → Option Asked
read_check kind words =
    with_question kind words (λ question rest. with_hex rest (λ proof after. option_map (check question proof) (room_of 128 1000 after)))

-- cross-check QUESTION HEX
abbrev pub read_cross_check : ChartKind → List (List ℕ) → Option Asked
read_cross_check kind words =
    with_question kind words (λ question rest. with_hex rest (λ proof after. at_end after (cross_check question proof)))

-- ask QUESTION
abbrev pub read_ask : ChartKind → List (List ℕ) → Option Asked
read_ask kind words = with_question kind words (λ question rest. at_end rest (ask question))

abbrev pub read_call_words : ChartKind → List (List ℕ) → Option Asked
read_call_words kind [] = None
read_call_words kind (verb ∷ rest) =
    cond (bytes_eq verb (codes "publish")) (read_publish rest)
    (cond (bytes_eq verb (codes "adopt")) (read_adopt rest)
    (cond (bytes_eq verb (codes "prove")) (read_prove kind rest)
    (cond (bytes_eq verb (codes "check")) (read_check kind rest)
    (cond (bytes_eq verb (codes "cross-check")) (read_cross_check kind rest)
    (cond (bytes_eq verb (codes "ask")) (read_ask kind rest) None)))))

-- Lines of up to 200,000 bytes are read.
abbrev pub read_call_command : ChartKind → List ℕ → Option Asked
read_call_command kind line = cond (nat_lt 200000 (length line)) None (read_call_words kind (words_of line))
