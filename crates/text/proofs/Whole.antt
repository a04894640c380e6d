-- Accepted lines are a word and its numbers, and nothing else.
use Rattle.std.proofs.Common.{◌≡◌, ℕ, ◌≤◌, leb, List, [], ◌∷◌, length, Some, None, codes, Option, sym, refl, ap, ◌∙◌, subst, arith}
use Rattle.std.specs.Str.{bytes_eq}
use Rattle.std.proofs.lemmas.Slice.Eq.{bytes_eq-Decides}
use Rattle.std.proofs.lemmas.Bool.{cond-true, le-leb}
use Rattle.lines.specs.declared.settings.SettingWord.{SettingWord}
use Rattle.lines.specs.declared.settings.SettingWord.TheVariants as sets
use Rattle.lexer.specs.Bytes.{value_of}
use Rattle.lexer.specs.Tokens.{Piece, number, word, done, Placed, pieces_from}
use Rattle.formulas.specs.Reading.{Outcome, fault, parsed, Reader, bind, a_number, the_end}
use Rattle.lines.specs.Reading.{last_number, the_dates, the_beginning, following}
use Rattle.lines.specs.Firsts.{first_word, accepted, answer}
use Rattle.lines.specs.Settings.{Opening, pairs, dates, circle, queue, setting_word, setting_rest}
use Rattle.text.specs.Calls.{Request, verdict, call_word, call_rest}
use Rattle.text.specs.Laws.{bare, Says, says_pairs, says_dates, says_circle, says_queue, Asks, asks_verdict, LinesRead}
use Rattle.lexer.proofs.Picks.{chosen, none}
use Rattle.text.proofs.Said.{Closed, pieces_closed, bind_said, number_said, end_said, dates_said, line_said}
use Rattle.text.proofs.Heard.{number_heard, end_heard, last_heard, dates_heard, line_heard}

-- how each word is written
abbrev set_by : SettingWord → List ℕ
set_by sets.Pairs = codes "pairs"
set_by sets.Dates = codes "dates"
set_by sets.Circle = codes "circle"
set_by sets.Queue = codes "queue"

abbrev asked_by : Request → List ℕ
asked_by verdict = codes "verdict"

setting_known : (w : List ℕ) (v : SettingWord) → setting_word w ≡ Some v → w ≡ set_by v
unfolding setting_word
setting_known w v =
    chosen (w ≡ set_by v) (bytes_eq w (codes "pairs")) sets.Pairs _ v (λ t e. (bytes_eq-Decides w (codes "pairs")).0 t ∙ ap set_by e)
    (chosen (w ≡ set_by v) (bytes_eq w (codes "dates")) sets.Dates _ v (λ t e. (bytes_eq-Decides w (codes "dates")).0 t ∙ ap set_by e)
    (chosen (w ≡ set_by v) (bytes_eq w (codes "circle")) sets.Circle _ v (λ t e. (bytes_eq-Decides w (codes "circle")).0 t ∙ ap set_by e)
    (chosen (w ≡ set_by v) (bytes_eq w (codes "queue")) sets.Queue None v (λ t e. (bytes_eq-Decides w (codes "queue")).0 t ∙ ap set_by e) (none (w ≡ set_by v) v))))

set_known : (v : SettingWord) → setting_word (set_by v) ≡ Some v
unfolding setting_word
set_known sets.Pairs = refl
set_known sets.Dates = refl
set_known sets.Circle = refl
set_known sets.Queue = refl

call_known : (w : List ℕ) (v : Request) → call_word w ≡ Some v → w ≡ asked_by v
unfolding call_word
call_known w v = chosen (w ≡ asked_by v) (bytes_eq w (codes "verdict")) verdict None v (λ t e. (bytes_eq-Decides w (codes "verdict")).0 t ∙ ap asked_by e) (none (w ≡ asked_by v) v)

asked_known : (v : Request) → call_word (asked_by v) ≡ Some v
unfolding call_word
asked_known verdict = refl

says_as : (o x : Opening) (qs rs : List Piece) → o ≡ x → qs ≡ rs → Says o qs → Says x rs
says_as o x qs rs p q s = subst (λ y. Says y rs) p (subst (λ l. Says o l) q s)

-- a number with nothing after it, and what is said then
last_said : (f : ℕ → Opening) (ps : List Placed) (o : Opening) (left : List Placed) → Closed ps → bind (last_number ps) (λ k. parsed (f k)) ≡ parsed o left
    → (ds : List ℕ) × (f (value_of ds) ≡ o) × (bare ps ≡ number ds ∷ done ∷ [])
last_said f ps o left h e =
    let a = bind_said (last_number ps) (λ k. parsed (f k)) o left e in
    let b = bind_said (a_number ps) (λ n r. bind (the_end r) (λ _. parsed n)) a.0 a.1 a.2 in
    let c = bind_said (the_end b.1) (λ _. parsed b.0) a.0 a.1 b.3 in
    let n = number_said ps b.0 b.1 h b.2 in
    let t = end_said b.1 c.0 c.1 n.3 c.2 in
    let same : parsed b.0 c.1 ≡ parsed a.0 a.1 = c.3 in
    let all : parsed (f a.0) a.1 ≡ parsed o left = a.3 in
    let k : b.0 ≡ a.0 = cc in
    let x : f a.0 ≡ o = cc in
    (n.0, ap f (n.1 ∙ k) ∙ x, n.2 ∙ ap (λ l. number n.0 ∷ l) t)

setting_said : (v : SettingWord) (ps : List Placed) (o : Opening) (left : List Placed) → Closed ps → setting_rest v ps ≡ parsed o left → Says o (word (set_by v) ∷ bare ps)
setting_said sets.Pairs ps o left h e =
    let a = bind_said (a_number ps) (λ l r. bind (last_number r) (λ s. parsed (pairs l s))) o left e in
    let n = number_said ps a.0 a.1 h a.2 in
    let b = last_said (pairs a.0) a.1 o left n.3 a.3 in
    says_as (pairs (value_of n.0) (value_of b.0)) o _ _ (ap (λ l. pairs l (value_of b.0)) n.1 ∙ b.1) (ap (λ l. word (codes "pairs") ∷ l) (sym (n.2 ∙ ap (λ l. number n.0 ∷ l) b.2))) says_pairs
setting_said sets.Dates ps o left h e =
    let a = bind_said (the_dates ps) (λ ds. parsed (dates ds)) o left e in
    let all : parsed (dates a.0) a.1 ≡ parsed o left = a.3 in
    let x : dates a.0 ≡ o = cc in
    says_as (dates a.0) o _ _ x refl (says_dates (dates_said None ps a.0 a.1 h a.2))
setting_said sets.Circle ps o left h e =
    let b = last_said circle ps o left h e in
    says_as (circle (value_of b.0)) o _ _ b.1 (ap (λ l. word (codes "circle") ∷ l) (sym b.2)) says_circle
setting_said sets.Queue ps o left h e =
    let b = last_said queue ps o left h e in
    says_as (queue (value_of b.0)) o _ _ b.1 (ap (λ l. word (codes "queue") ∷ l) (sym b.2)) says_queue

a_setting_said : (ps : List Placed) (o : Opening) (left : List Placed) → Closed ps → following setting_word setting_rest (the_beginning ps) ≡ parsed o left → Says o (bare ps)
a_setting_said ps o left h e =
    let a = line_said setting_word setting_rest ps o left h e in
    says_as o o _ _ refl (ap (λ w. word w ∷ bare a.2) (sym (setting_known a.0 a.1 a.3)) ∙ sym a.4) (setting_said a.1 a.2 o left a.6 a.5)

a_setting_heard : {o : Opening} {qs : List Piece} → Says o qs → (ps : List Placed) → bare ps ≡ qs → following setting_word setting_rest (the_beginning ps) ≡ parsed o []
a_setting_heard (says_pairs {l} {s}) ps e =
    let a = line_heard setting_word setting_rest ps (codes "pairs") (number l ∷ number s ∷ done ∷ []) sets.Pairs e (set_known sets.Pairs) in
    let b = number_heard a.0 l (number s ∷ done ∷ []) a.2 in
    a.1 ∙ ap (λ x. bind x (λ n r. bind (last_number r) (λ m. parsed (pairs n m)))) b.1 ∙ ap (λ x. bind x (λ m. parsed (pairs (value_of l) m))) (last_heard b.0 s b.2)
a_setting_heard (says_dates {ds} {ps = qs} l) ps e =
    let a = line_heard setting_word setting_rest ps (codes "dates") qs sets.Dates e (set_known sets.Dates) in
    a.1 ∙ ap (λ x. bind x (λ es. parsed (dates es))) (dates_heard l a.0 a.2)
a_setting_heard (says_circle {k}) ps e =
    let a = line_heard setting_word setting_rest ps (codes "circle") (number k ∷ done ∷ []) sets.Circle e (set_known sets.Circle) in
    a.1 ∙ ap (λ x. bind x (λ n. parsed (circle n))) (last_heard a.0 k a.2)
a_setting_heard (says_queue {k}) ps e =
    let a = line_heard setting_word setting_rest ps (codes "queue") (number k ∷ done ∷ []) sets.Queue e (set_known sets.Queue) in
    a.1 ∙ ap (λ x. bind x (λ n. parsed (queue n))) (last_heard a.0 k a.2)

asks_as : (q x : Request) (qs rs : List Piece) → q ≡ x → qs ≡ rs → Asks q qs → Asks x rs
asks_as q x qs rs p e s = subst (λ y. Asks y rs) p (subst (λ l. Asks q l) e s)

call_said : (v : Request) (ps : List Placed) (q : Request) (left : List Placed) → Closed ps → call_rest v ps ≡ parsed q left → Asks q (word (asked_by v) ∷ bare ps)
call_said verdict ps q left h e =
    let a = bind_said (the_end ps) (λ _. parsed verdict) q left e in
    let all : parsed verdict a.1 ≡ parsed q left = a.3 in
    let x : verdict ≡ q = cc in
    asks_as verdict q _ _ x (ap (λ l. word (codes "verdict") ∷ l) (sym (end_said ps a.0 a.1 h a.2))) asks_verdict

a_call_said : (ps : List Placed) (q : Request) (left : List Placed) → Closed ps → following call_word call_rest (the_beginning ps) ≡ parsed q left → Asks q (bare ps)
a_call_said ps q left h e =
    let a = line_said call_word call_rest ps q left h e in
    asks_as q q _ _ refl (ap (λ w. word w ∷ bare a.2) (sym (call_known a.0 a.1 a.3)) ∙ sym a.4) (call_said a.1 a.2 q left a.6 a.5)

a_call_heard : {q : Request} {qs : List Piece} → Asks q qs → (ps : List Placed) → bare ps ≡ qs → following call_word call_rest (the_beginning ps) ≡ parsed q []
a_call_heard asks_verdict ps e =
    let a = line_heard call_word call_rest ps (codes "verdict") (done ∷ []) verdict e (asked_known verdict) in
    a.1 ∙ ap (λ x. bind x (λ _. parsed verdict)) (end_heard a.0 a.2)

module _ {W X : Type 0} (known : List ℕ → Option W) (rest : W → Reader X) (line : List ℕ) (x : X) (short : length line ≤ 200) where
  short_read : following known rest (first_word line) ≡ following known rest (the_beginning (pieces_from line 0))
  unfolding first_word
  short_read = ap (following known rest) (cond-true (leb (length line) 200) _ _ (le-leb (length line) 200 short))

  -- an accepted line is one that something was read from
  was_read : answer (following known rest (first_word line)) ≡ accepted x → (left : List Placed) × (following known rest (the_beginning (pieces_from line 0)) ≡ parsed x left)
  was_read e = by_outcome (following known rest (the_beginning (pieces_from line 0))) (ap answer (sym short_read) ∙ e)
    where
      by_outcome : (o : Outcome X) → answer o ≡ accepted x → (left : List Placed) × (o ≡ parsed x left)
      by_outcome (fault f) g = absurd (let z : ◌≡◌ {A = ℕ} 0 1 = cc in omega arith)
      by_outcome (parsed y ps) g = (ps, let same : y ≡ x = cc in ap (λ z. parsed z ps) same)

  is_read : following known rest (the_beginning (pieces_from line 0)) ≡ parsed x [] → answer (following known rest (first_word line)) ≡ accepted x
  is_read e = ap answer (short_read ∙ e)

pub lines_read : LinesRead
lines_read = (
  (λ line o short. (
    (λ e. let r = was_read setting_word setting_rest line o short e in a_setting_said (pieces_from line 0) o r.0 (pieces_closed line 0) r.1),
    (λ s. is_read setting_word setting_rest line o short (a_setting_heard s (pieces_from line 0) refl)),
  )),
  (λ line q short. (
    (λ e. let r = was_read call_word call_rest line q short e in a_call_said (pieces_from line 0) q r.0 (pieces_closed line 0) r.1),
    (λ s. is_read call_word call_rest line q short (a_call_heard s (pieces_from line 0) refl)),
  )),
)
