-- The readers of formulas: what each makes of the pieces of a line.
use Rattle.std.specs.Prelude.{ℕ, zero, suc, cond, List, [], ◌∷◌, length, Some, None, codes, Option}
use Rattle.std.specs.Str.{bytes_eq}
use Rattle.lexer.specs.declared.tokens.Sign.{Sign}
use Rattle.lexer.specs.declared.tokens.Sign.TheVariants.{Not, And, Or, Open, Close, Dot, Slash, Equals, Minus, Knows, Value}
use Rattle.lexer.specs.Tokens.{Piece, number, word, sign, bad, done}
use Rattle.formulas.specs.declared.words.Keyword.{Keyword}
use Rattle.formulas.specs.declared.words.Keyword.TheVariants as key
use Rattle.formulas.specs.Reading.{Outcome, fault, parsed, Reader, bind, at, a_number, perhaps, the_sign}
use Rattle.formulas.specs.Sentences.{Sentence, truth, fact, equals, neg, both, either, knows, values}

-- the word that a run of letters is, if it is one
unfoldable pub keyword : List ℕ → Option Keyword
keyword w =
    cond (bytes_eq w (codes "true")) (Some key.True)
    (cond (bytes_eq w (codes "f")) (Some key.Fact)
    (cond (bytes_eq w (codes "q")) (Some key.Quantity) None))

-- operands joined by the sign s, grouping to the left: x is what was read so far, and at most n more operands follow
unfoldable pub chain : Sign → (Sentence → Sentence → Sentence) → Reader Sentence → ℕ → Sentence → Reader Sentence
chain s join operand zero x ps = parsed x ps
chain s join operand (suc n) x ps =
    bind (perhaps s ps) (λ o rest. elim o [ None ↦ parsed x rest | Some c ↦ bind (operand rest) (λ y. chain s join operand n (join x y)) ])

-- an operand, and all that are joined to it: no more than there are pieces left
abbrev pub joined : Sign → (Sentence → Sentence → Sentence) → Reader Sentence → Reader Sentence
joined s join operand ps = bind (operand ps) (λ x rest. chain s join operand (length rest) x rest)

-- terms joined by `&`, and these joined by `|`
abbrev pub conjunction_by : Reader Sentence → Reader Sentence
conjunction_by term = joined And both term

abbrev pub disjunction_by : Reader Sentence → Reader Sentence
disjunction_by term = joined Or either (conjunction_by term)

-- one level down, if there is one; else the token at column c opens a level too many
abbrev pub deeper : Option (Reader Sentence) → ℕ → (Reader Sentence → Outcome Sentence) → Outcome Sentence
deeper None c k = at 15 c
deeper (Some term) c k = k term

-- what follows a word at column c
abbrev pub word_in : ℕ → Option Keyword → Reader Sentence
word_in c (Some key.True) ps = parsed truth ps
word_in c (Some key.Fact) ps = bind (a_number ps) (λ n. parsed (fact n))
word_in c (Some key.Quantity) ps = bind (a_number ps) (λ q r. bind (the_sign Equals r) (λ _ r. bind (a_number r) (λ v. parsed (equals q v))))
word_in c None ps = at 14 c

-- what follows `V p.q`: a condition, if there is a slash, at its column
abbrev pub value_in : Option (Reader Sentence) → ℕ → ℕ → Option ℕ → Reader Sentence
value_in inner p q None ps = parsed (values p q truth) ps
value_in inner p q (Some c) ps = deeper inner c (λ term. bind (term ps) (λ x. parsed (values p q x)))

-- a term that begins with a piece at column c; `inner` reads terms one level down
abbrev pub term_in : Option (Reader Sentence) → ℕ → Piece → Reader Sentence
term_in inner c (number ds) ps = at 14 c
term_in inner c (word w) ps = word_in c (keyword w) ps
term_in inner c (bad n) ps = at n c
term_in inner c done ps = at 14 c
term_in inner c (sign Not) ps = deeper inner c (λ term. bind (term ps) (λ x. parsed (neg x)))
term_in inner c (sign Knows) ps = deeper inner c (λ term. bind (a_number ps) (λ p r. bind (term r) (λ x. parsed (knows p x))))
term_in inner c (sign Open) ps = deeper inner c (λ term. bind (disjunction_by term ps) (λ x r. bind (the_sign Close r) (λ _. parsed x)))
term_in inner c (sign Value) ps = bind (a_number ps) (λ p r. bind (the_sign Dot r) (λ _ r. bind (a_number r) (λ q r. bind (perhaps Slash r) (value_in inner p q))))
term_in inner c (sign And) ps = at 14 c
term_in inner c (sign Or) ps = at 14 c
term_in inner c (sign Close) ps = at 14 c
term_in inner c (sign Dot) ps = at 14 c
term_in inner c (sign Slash) ps = at 14 c
term_in inner c (sign Equals) ps = at 14 c
term_in inner c (sign Minus) ps = at 14 c

abbrev pub term_with : Option (Reader Sentence) → Reader Sentence
term_with inner [] = at 14 0
term_with inner (p ∷ ps) = term_in inner p.column p.piece ps

-- a term, with so many levels left to open
unfoldable pub term : ℕ → Reader Sentence
term zero = term_with None
term (suc levels) = term_with (Some (term levels))

-- how what stands one level down is read
abbrev pub inner : ℕ → Option (Reader Sentence)
inner zero = None
inner (suc levels) = Some (term levels)

abbrev pub conjunction : ℕ → Reader Sentence
conjunction levels = conjunction_by (term levels)

abbrev pub disjunction : ℕ → Reader Sentence
disjunction levels = disjunction_by (term levels)

-- a formula of a line has 32 levels
abbrev pub a_formula : Reader Sentence
a_formula = disjunction 32

-- the sentence that was read
abbrev pub sentence_of : Outcome Sentence → Sentence
sentence_of (fault e) = truth
sentence_of (parsed x ps) = x
