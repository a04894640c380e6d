-- The grammar of lines: which pieces are a setting line or a later line, and what they say.
use Rattle.std.specs.Prelude.{◌≡◌, ℕ, ◌≤◌, false, List, [], ◌∷◌, ◌++◌, length, codes}
use Rattle.theory.specs.declared.node.Node.{Node}
use Rattle.lexer.specs.Bytes.{value_of}
use Rattle.lexer.specs.Tokens.{number, word, done, Placed, pieces_from}
use Rattle.formulas.specs.Sentences.{Sentence}
use Rattle.lines.specs.Firsts.{accepted}
use Rattle.lines.specs.Settings.{Opening, pairs, dates, circle, queue, read_setting}
use Rattle.lines.specs.Calls.{Request, marks, verdict, holding, writing, read_call}
use Rattle.grammar.specs.Grammar.{place, Disjunction}

-- numbers by twos, a month and its day, and then the end
pub data Lists : List (ℕ × ℕ) → List Placed → Type 0 where
  no_dates : {c : ℕ} → Lists [] (place done c ∷ [])
  one_date : {b c : ℕ} {m d : List ℕ} {ds : List (ℕ × ℕ)} {ps : List Placed} → Lists ds ps → Lists ((value_of m, value_of d) ∷ ds) (place (number m) b ∷ place (number d) c ∷ ps)

-- the pieces of a setting line that says o
pub data Says : Opening → List Placed → Type 0 where
  says_pairs : {a b c d : ℕ} {l s : List ℕ} → Says (pairs (value_of l) (value_of s)) (place (word (codes "pairs")) a ∷ place (number l) b ∷ place (number s) c ∷ place done d ∷ [])
  says_dates : {a : ℕ} {ds : List (ℕ × ℕ)} {ps : List Placed} → Lists ds ps → Says (dates ds) (place (word (codes "dates")) a ∷ ps)
  says_circle : {a b c : ℕ} {k : List ℕ} → Says (circle (value_of k)) (place (word (codes "circle")) a ∷ place (number k) b ∷ place done c ∷ [])
  says_queue : {a b c : ℕ} {k : List ℕ} → Says (queue (value_of k)) (place (word (codes "queue")) a ∷ place (number k) b ∷ place done c ∷ [])

-- the pieces of a later line that asks for q; a sentence on a line has 32 levels
pub data Asks : Request → List Placed → Type 0 where
  asks_where : {a : ℕ} {x : Sentence} {ps : List Placed} (b : ℕ) → Disjunction 32 x ps → Asks (marks x) (place (word (codes "where")) a ∷ (ps ++ place done b ∷ []))
  asks_verdict : {a b : ℕ} → Asks verdict (place (word (codes "verdict")) a ∷ place done b ∷ [])

-- just those setting lines are accepted, each for what it says
abbrev pub SettingsRead : Type 0
SettingsRead =
    (line : List ℕ) (o : Opening) → length line ≤ 200
    → (read_setting line ≡ accepted o → Says o (pieces_from line 0)) × (Says o (pieces_from line 0) → read_setting line ≡ accepted o)

-- just those later lines are accepted, each for what it asks, if its nodes find a place behind those that are there
abbrev pub CallsRead : Type 0
CallsRead =
    (line : List ℕ) (ns : List Node) (q : Request) → length line ≤ 200
    → (read_call line ns ≡ accepted q → Asks q (pieces_from line 0) × ((writing q (holding ns)).full ≡ false))
    × (Asks q (pieces_from line 0) → (writing q (holding ns)).full ≡ false → read_call line ns ≡ accepted q)
