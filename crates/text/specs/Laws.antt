-- Which lines are accepted: those whose tokens are a word and its numbers, and nothing else.
use Rattle.std.specs.Prelude.{◌≡◌, ℕ, ◌≤◌, List, [], ◌∷◌, map, length, codes}
use Rattle.lexer.specs.Bytes.{value_of}
use Rattle.lexer.specs.Tokens.{Piece, number, word, done, Placed, pieces_from}
use Rattle.lines.specs.Firsts.{accepted}
use Rattle.lines.specs.Settings.{Opening, pairs, dates, circle, queue, read_setting}
use Rattle.text.specs.Calls.{Request, verdict, read_call}

-- pieces without their columns
abbrev pub bare : List Placed → List Piece
bare ps = map (λ p. p.piece) ps

-- numbers by twos, a month and its day, and then the end
pub data Lists : List (ℕ × ℕ) → List Piece → Type 0 where
  no_more : Lists [] (done ∷ [])
  one_more : {m d : List ℕ} {ds : List (ℕ × ℕ)} {ps : List Piece} → Lists ds ps → Lists ((value_of m, value_of d) ∷ ds) (number m ∷ number d ∷ ps)

-- the pieces of a setting line that says o
pub data Says : Opening → List Piece → Type 0 where
  says_pairs : {l s : List ℕ} → Says (pairs (value_of l) (value_of s)) (word (codes "pairs") ∷ number l ∷ number s ∷ done ∷ [])
  says_dates : {ds : List (ℕ × ℕ)} {ps : List Piece} → Lists ds ps → Says (dates ds) (word (codes "dates") ∷ ps)
  says_circle : {k : List ℕ} → Says (circle (value_of k)) (word (codes "circle") ∷ number k ∷ done ∷ [])
  says_queue : {k : List ℕ} → Says (queue (value_of k)) (word (codes "queue") ∷ number k ∷ done ∷ [])

-- the pieces of a later line that asks for q
pub data Asks : Request → List Piece → Type 0 where
  asks_verdict : Asks verdict (word (codes "verdict") ∷ done ∷ [])

-- just those lines are accepted, each for what it says
abbrev pub LinesRead : Type 0
LinesRead =
    ((line : List ℕ) (o : Opening) → length line ≤ 200
    → (read_setting line ≡ accepted o → Says o (bare (pieces_from line 0))) × (Says o (bare (pieces_from line 0)) → read_setting line ≡ accepted o))
    × ((line : List ℕ) (q : Request) → length line ≤ 200
    → (read_call line ≡ accepted q → Asks q (bare (pieces_from line 0))) × (Asks q (bare (pieces_from line 0)) → read_call line ≡ accepted q))
