-- Just the lines of the grammar are accepted.
use Rattle.std.proofs.Common.{◌≡◌, ℕ, ◌<◌, Bool, true, false, cond, List, [], ◌∷◌, ◌++◌, length, Some, None, codes, Option, sym, refl, ap, ◌∙◌, subst, arith, length-append}
use Rattle.std.specs.Str.{bytes_eq}
use Rattle.std.proofs.lemmas.Slice.Eq.{bytes_eq-Decides}
use Rattle.std.proofs.lemmas.Bool.{cond-false}
use Rattle.theory.specs.declared.node.Node.{Node}
use Rattle.lexer.specs.Bytes.{value_of}
use Rattle.lexer.specs.Tokens.{Piece, number, word, sign, bad, done, Placed, pieces_from}
use Rattle.lexer.proofs.Picks.{chosen, none}
use Rattle.formulas.specs.Reading.{Outcome, fault, parsed, Reader, bind, at, number_or, a_number, perhaps, end_in, the_end}
use Rattle.formulas.specs.Readers.{disjunction}
use Rattle.formulas.specs.Sentences.{Sentence}
use Rattle.lines.specs.declared.settings.SettingWord.{SettingWord}
use Rattle.lines.specs.declared.settings.SettingWord.TheVariants as sets
use Rattle.lines.specs.declared.calls.CallWord.{CallWord}
use Rattle.lines.specs.declared.calls.CallWord.TheVariants as asks
use Rattle.lines.specs.Reading.{last_number, dates_after, the_dates, beginning_in, the_beginning, rest_of, following}
use Rattle.lines.specs.Firsts.{refused, accepted, answer}
use Rattle.lines.specs.Settings.{Opening, pairs, dates, circle, queue, setting_word, setting_rest}
use Rattle.lines.specs.Calls.{Request, marks, verdict, call_word, call_rest, holding, writing, unless_full}
use Rattle.grammar.specs.Grammar.{place}
use Rattle.grammar.specs.Faults.{Inside, Ended, end_alone, one_before, a_setting, a_call}
use Rattle.grammar.specs.Lines.{Lists, no_dates, one_date, Says, says_pairs, says_dates, says_circle, says_queue, Asks, asks_where, asks_verdict, SettingsRead, CallsRead}
use Rattle.grammar.proofs.Complete.{sentence_reads}
use Rattle.grammar.proofs.Sound.{no_parse, same_value, seen, then, Numbered, numbered, reads_sentence}
use Rattle.grammar.proofs.Regular.{inside_as, ended_rest}
use Rattle.grammar.proofs.Completed.{lines_end, lines_by_pieces}

-- nothing comes behind the end
end_last : (p : Placed) (ps : List Placed) → p.piece ≡ done → Ended (p ∷ ps) → p ∷ ps ≡ place done p.column ∷ []
end_last p ps is (end_alone c) = refl
end_last p ps is (one_before q inside t) = absurd (let P : Piece → Type 0 = λ r. Inside r in subst P is inside)

ended_next : (p : Placed) (ps : List Placed) → 0 < length ps → Ended (p ∷ ps) → Ended ps
ended_next p ps some (end_alone c) = absurd (omega arith)
ended_next p ps some (one_before q inside t) = t

ended_behind : (front : List Placed) (p : Placed) (ps : List Placed) → Ended (front ++ p ∷ ps) → Ended (p ∷ ps)
ended_behind [] p ps t = t
ended_behind (q ∷ front) p ps t = ended_behind front p ps (ended_next q (front ++ p ∷ ps) (omega (arith, length-append front (p ∷ ps))) t)

-- the end that was read stands there
end_stands : (ps : List Placed) (u : Unit {0}) (rest : List Placed) → Ended ps → the_end ps ≡ parsed u rest → (c : ℕ) × (ps ≡ place done c ∷ [])
unfolding the_end
end_stands [] u rest t e = elim t [ ]
end_stands (p ∷ ps) u rest t e = by p.piece refl e
  where
    by : (q : Piece) → p.piece ≡ q → end_in p.column q ≡ parsed u rest → (c : ℕ) × (p ∷ ps ≡ place done c ∷ [])
    by (number ds) is e = absurd (no_parse _ u rest e)
    by (word w) is e = absurd (no_parse _ u rest e)
    by (sign s) is e = absurd (no_parse _ u rest e)
    by (bad n) is e = absurd (no_parse _ u rest e)
    by done is e = (p.column, end_last p ps is t)

number_ended : (ps : List Placed) (v : ℕ) (rest : List Placed) → Numbered ps v rest → Ended ps → Ended rest
number_ended ps v rest n t = let P : List Placed → Type 0 = λ l. Ended l in ended_rest (place (number n.digits) n.column) rest tt (subst P n.stands t)

-- a number with nothing after it, and what it is put into
record Last {X : Type 0} (form : ℕ → X) (ps : List Placed) (x : X) : Type 0 where
  digits : List ℕ
  column : ℕ
  end : ℕ
  stands : ps ≡ place (number digits) column ∷ place done end ∷ []
  says : form (value_of digits) ≡ x

last_said : {X : Type 0} (form : ℕ → X) (ps : List Placed) (x : X) (left : List Placed) → Ended ps → bind (last_number ps) (λ k. parsed (form k)) ≡ parsed x left → Last form ps x
last_said {X} form ps x left t e =
    let a = seen (last_number ps) (λ k. parsed (form k)) x left e in
    let K : ℕ → Reader ℕ = λ n r. bind (the_end r) (λ _. parsed n) in
    let b = seen (a_number ps) K a.value a.rest a.is in
    let n = numbered ps b.value b.rest b.is in
    let e₂ = then (a_number ps) K a.value a.rest a.is b in
    let c = seen (the_end b.rest) (λ _. parsed b.value) a.value a.rest e₂ in
    let end = end_stands b.rest c.value c.rest (number_ended ps b.value b.rest n t) c.is in
    let same = same_value b.value a.value c.rest a.rest (then (the_end b.rest) (λ _. parsed b.value) a.value a.rest e₂ c) in
    record {
      digits = n.digits;
      column = n.column;
      end = end.0;
      stands = n.stands ∙ ap (λ l. place (number n.digits) n.column ∷ l) end.1;
      says = ap form (sym n.value ∙ same) ∙ same_value (form a.value) x a.rest left (then (last_number ps) (λ k. parsed (form k)) x left e a);
    }

-- a month that waits, its day, and then dates
record Day (m : ℕ) (ds : List (ℕ × ℕ)) (ps : List Placed) : Type 0 where
  digits : List ℕ
  column : ℕ
  later : List (ℕ × ℕ)
  rest : List Placed
  dated : (m, value_of digits) ∷ later ≡ ds
  stands : ps ≡ place (number digits) column ∷ rest
  lists : Lists later rest

abbrev ListsAfter : Option ℕ → List (ℕ × ℕ) → List Placed → Type 0
ListsAfter None ds ps = Lists ds ps
ListsAfter (Some m) ds ps = Day m ds ps

lists_as : (ds es : List (ℕ × ℕ)) (ps qs : List Placed) → ds ≡ es → ps ≡ qs → Lists ds ps → Lists es qs
lists_as ds es ps qs p q l = subst (λ x. Lists x qs) p (subst (λ y. Lists ds y) q l)

dates_said : (waiting : Option ℕ) (ps : List Placed) (ds : List (ℕ × ℕ)) (left : List Placed) → Ended ps → dates_after waiting ps ≡ parsed ds left → ListsAfter waiting ds ps
unfolding dates_after
dates_said waiting [] ds left t e = elim t [ ]
dates_said None (p ∷ ps) ds left t e = by p.piece refl e (λ m u. dates_said (Some m) ps ds left u)
  where
    by : (q : Piece) → p.piece ≡ q → number_or p.column q (λ m. dates_after (Some m) ps) (parsed [] []) ≡ parsed ds left
        → ((m : ℕ) → Ended ps → dates_after (Some m) ps ≡ parsed ds left → Day m ds ps) → Lists ds (p ∷ ps)
    by (number m) is f go =
        let day = go (value_of m) (ended_rest p ps (inside_as p (number m) is tt) t) f in
        lists_as ((value_of m, value_of day.digits) ∷ day.later) ds (place (number m) p.column ∷ place (number day.digits) day.column ∷ day.rest) (p ∷ ps) day.dated
        (λ i. record { piece = sym is i; column = p.column } ∷ sym day.stands i) (one_date day.lists)
    by (word w) is f go = absurd (no_parse _ ds left f)
    by (sign s) is f go = absurd (no_parse _ ds left f)
    by (bad n) is f go = absurd (no_parse _ ds left f)
    by done is f go = lists_as [] ds (place done p.column ∷ []) (p ∷ ps) (same_value [] ds [] left f) (sym (end_last p ps is t)) no_dates
dates_said (Some m) (p ∷ ps) ds left t e = by p.piece refl e (λ es r u. dates_said None ps es r u)
  where
    by : (q : Piece) → p.piece ≡ q → number_or p.column q (λ d. bind (dates_after None ps) (λ es. parsed ((m, d) ∷ es))) (at 14 p.column) ≡ parsed ds left
        → ((es : List (ℕ × ℕ)) (r : List Placed) → Ended ps → dates_after None ps ≡ parsed es r → Lists es ps) → Day m ds (p ∷ ps)
    by (number d) is f go =
        let a = seen (dates_after None ps) (λ es. parsed ((m, value_of d) ∷ es)) ds left f in
        record {
          digits = d;
          column = p.column;
          later = a.value;
          rest = ps;
          dated = same_value ((m, value_of d) ∷ a.value) ds a.rest left (then (dates_after None ps) (λ es. parsed ((m, value_of d) ∷ es)) ds left f a);
          stands = λ i. record { piece = is i; column = p.column } ∷ ps;
          lists = go a.value a.rest (ended_rest p ps (inside_as p (number d) is tt) t) a.is;
        }
    by (word w) is f go = absurd (no_parse _ ds left f)
    by (sign s) is f go = absurd (no_parse _ ds left f)
    by (bad n) is f go = absurd (no_parse _ ds left f)
    by done is f go = absurd (no_parse _ ds left f)

-- a line that is read begins with a word that is known
record Worded {W X : Type 0} (known : List ℕ → Option W) (follows : W → Reader X) (ps : List Placed) (x : X) (left : List Placed) : Type 0 where
  letters : List ℕ
  column : ℕ
  kind : W
  rest : List Placed
  is_known : known letters ≡ Some kind
  stands : ps ≡ place (word letters) column ∷ rest
  read : follows kind rest ≡ parsed x left
  ended : Ended rest

worded : {W X : Type 0} (known : List ℕ → Option W) (follows : W → Reader X) (ps : List Placed) (x : X) (left : List Placed) → Ended ps → following known follows (the_beginning ps) ≡ parsed x left → Worded known follows ps x left
unfolding the_beginning
worded {W} {X} known follows [] x left t e = elim t [ ]
worded {W} {X} known follows (p ∷ ps) x left t e = by p.piece refl e
  where
    by_word : (w : List ℕ) → p.piece ≡ word w → (o : Option W) → known w ≡ o → rest_of follows p.column o ps ≡ parsed x left → Worded known follows (p ∷ ps) x left
    by_word w is None k e = absurd (no_parse _ x left e)
    by_word w is (Some v) k e =
        record {
          letters = w;
          column = p.column;
          kind = v;
          rest = ps;
          is_known = k;
          stands = λ i. record { piece = is i; column = p.column } ∷ ps;
          read = e;
          ended = ended_rest p ps (inside_as p (word w) is tt) t;
        }

    by : (q : Piece) → p.piece ≡ q → following known follows (beginning_in p.column q ps) ≡ parsed x left → Worded known follows (p ∷ ps) x left
    by (number ds) is e = absurd (no_parse _ x left e)
    by (word w) is e = by_word w is (known w) refl e
    by (sign s) is e = absurd (no_parse _ x left e)
    by (bad n) is e = absurd (no_parse _ x left e)
    by done is e = absurd (no_parse _ x left e)

-- how each word is written
abbrev set_by : SettingWord → List ℕ
set_by sets.Pairs = codes "pairs"
set_by sets.Dates = codes "dates"
set_by sets.Circle = codes "circle"
set_by sets.Queue = codes "queue"

abbrev asked_by : CallWord → List ℕ
asked_by asks.Where = codes "where"
asked_by asks.Verdict = codes "verdict"

setting_known : (w : List ℕ) (v : SettingWord) → setting_word w ≡ Some v → w ≡ set_by v
unfolding setting_word
setting_known w v =
    chosen (w ≡ set_by v) (bytes_eq w (codes "pairs")) sets.Pairs _ v (λ t e. (bytes_eq-Decides w (codes "pairs")).0 t ∙ ap set_by e)
    (chosen (w ≡ set_by v) (bytes_eq w (codes "dates")) sets.Dates _ v (λ t e. (bytes_eq-Decides w (codes "dates")).0 t ∙ ap set_by e)
    (chosen (w ≡ set_by v) (bytes_eq w (codes "circle")) sets.Circle _ v (λ t e. (bytes_eq-Decides w (codes "circle")).0 t ∙ ap set_by e)
    (chosen (w ≡ set_by v) (bytes_eq w (codes "queue")) sets.Queue None v (λ t e. (bytes_eq-Decides w (codes "queue")).0 t ∙ ap set_by e) (none (w ≡ set_by v) v))))

call_known : (w : List ℕ) (v : CallWord) → call_word w ≡ Some v → w ≡ asked_by v
unfolding call_word
call_known w v =
    chosen (w ≡ asked_by v) (bytes_eq w (codes "where")) asks.Where _ v (λ t e. (bytes_eq-Decides w (codes "where")).0 t ∙ ap asked_by e)
    (chosen (w ≡ asked_by v) (bytes_eq w (codes "verdict")) asks.Verdict None v (λ t e. (bytes_eq-Decides w (codes "verdict")).0 t ∙ ap asked_by e) (none (w ≡ asked_by v) v))

says_as : (o x : Opening) (ps qs : List Placed) → o ≡ x → ps ≡ qs → Says o ps → Says x qs
says_as o x ps qs p q s = subst (λ y. Says y qs) p (subst (λ l. Says o l) q s)

asks_as : (q x : Request) (ps qs : List Placed) → q ≡ x → ps ≡ qs → Asks q ps → Asks x qs
asks_as q x ps qs p e s = subst (λ y. Asks y qs) p (subst (λ l. Asks q l) e s)

module _ (c : ℕ) (ps : List Placed) (left : List Placed) (t : Ended ps) where
  abbrev behind_word : List ℕ → List Placed → List Placed
  behind_word w l = place (word w) c ∷ l

  setting_said : (v : SettingWord) (o : Opening) → setting_rest v ps ≡ parsed o left → Says o (behind_word (set_by v) ps)
  setting_said sets.Pairs o e =
      let K : ℕ → Reader Opening = λ l r. bind (last_number r) (λ s. parsed (pairs l s)) in
      let a = seen (a_number ps) K o left e in
      let n = numbered ps a.value a.rest a.is in
      let b = last_said (pairs a.value) a.rest o left (number_ended ps a.value a.rest n t) (then (a_number ps) K o left e a) in
      says_as (pairs (value_of n.digits) (value_of b.digits)) o
      (behind_word (codes "pairs") (place (number n.digits) n.column ∷ place (number b.digits) b.column ∷ place done b.end ∷ [])) (behind_word (codes "pairs") ps)
      (ap (λ l. pairs l (value_of b.digits)) (sym n.value) ∙ b.says)
      (ap (behind_word (codes "pairs")) (sym (n.stands ∙ ap (λ l. place (number n.digits) n.column ∷ l) b.stands))) says_pairs
  setting_said sets.Dates o e =
      let a = seen (the_dates ps) (λ ds. parsed (dates ds)) o left e in
      says_as (dates a.value) o (behind_word (codes "dates") ps) (behind_word (codes "dates") ps)
      (same_value (dates a.value) o a.rest left (then (the_dates ps) (λ ds. parsed (dates ds)) o left e a)) refl (says_dates (dates_said None ps a.value a.rest t a.is))
  setting_said sets.Circle o e =
      let b = last_said circle ps o left t e in
      says_as (circle (value_of b.digits)) o (behind_word (codes "circle") (place (number b.digits) b.column ∷ place done b.end ∷ [])) (behind_word (codes "circle") ps)
      b.says (ap (behind_word (codes "circle")) (sym b.stands)) says_circle
  setting_said sets.Queue o e =
      let b = last_said queue ps o left t e in
      says_as (queue (value_of b.digits)) o (behind_word (codes "queue") (place (number b.digits) b.column ∷ place done b.end ∷ [])) (behind_word (codes "queue") ps)
      b.says (ap (behind_word (codes "queue")) (sym b.stands)) says_queue

  -- what stands behind a sentence ends the line
  sentence_end : (x : Sentence) (front r : List Placed) (u : Unit {0}) (rest : List Placed) → ps ≡ front ++ r → the_end r ≡ parsed u rest → (d : ℕ) × (r ≡ place done d ∷ [])
  unfolding the_end
  sentence_end x front [] u rest split e = absurd (no_parse _ u rest e)
  sentence_end x front (p ∷ r) u rest split e = let P : List Placed → Type 0 = λ l. Ended l in end_stands (p ∷ r) u rest (ended_behind front p r (subst P split t)) e

  call_said : (v : CallWord) (q : Request) → call_rest v ps ≡ parsed q left → Asks q (behind_word (asked_by v) ps)
  call_said asks.Where q e =
      let K : Sentence → Reader Request = λ x r. bind (the_end r) (λ _. parsed (marks x)) in
      let a = seen (disjunction 32 ps) K q left e in
      let s = reads_sentence 32 ps a.value a.rest a.is in
      let e₂ = then (disjunction 32 ps) K q left e a in
      let b = seen (the_end a.rest) (λ _. parsed (marks a.value)) q left e₂ in
      let d = sentence_end a.value s.front a.rest b.value b.rest s.split b.is in
      asks_as (marks a.value) q (behind_word (codes "where") (s.front ++ place done d.0 ∷ [])) (behind_word (codes "where") ps)
      (same_value (marks a.value) q b.rest left (then (the_end a.rest) (λ _. parsed (marks a.value)) q left e₂ b))
      (ap (behind_word (codes "where")) (sym (s.split ∙ ap (λ l. s.front ++ l) d.1))) (asks_where d.0 s.says)
  call_said asks.Verdict q e =
      let a = seen (the_end ps) (λ _. parsed verdict) q left e in
      let d = end_stands ps a.value a.rest t a.is in
      asks_as verdict q (behind_word (codes "verdict") (place done d.0 ∷ [])) (behind_word (codes "verdict") ps)
      (same_value verdict q a.rest left (then (the_end ps) (λ _. parsed verdict) q left e a)) (ap (behind_word (codes "verdict")) (sym d.1)) asks_verdict

a_setting_said : (ps : List Placed) (o : Opening) (left : List Placed) → Ended ps → a_setting ps ≡ parsed o left → Says o ps
a_setting_said ps o left t e =
    let w = worded setting_word setting_rest ps o left t e in
    says_as o o (place (word (set_by w.kind)) w.column ∷ w.rest) ps refl (ap (λ l. place (word l) w.column ∷ w.rest) (sym (setting_known w.letters w.kind w.is_known)) ∙ sym w.stands)
    (setting_said w.column w.rest left w.ended w.kind o w.read)

a_call_said : (ps : List Placed) (q : Request) (left : List Placed) → Ended ps → a_call ps ≡ parsed q left → Asks q ps
a_call_said ps q left t e =
    let w = worded call_word call_rest ps q left t e in
    asks_as q q (place (word (asked_by w.kind)) w.column ∷ w.rest) ps refl (ap (λ l. place (word l) w.column ∷ w.rest) (sym (call_known w.letters w.kind w.is_known)) ∙ sym w.stands)
    (call_said w.column w.rest left w.ended w.kind q w.read)

dates_read : {ds : List (ℕ × ℕ)} {ps : List Placed} → Lists ds ps → the_dates ps ≡ parsed ds []
unfolding dates_after
dates_read no_dates = refl
dates_read (one_date {m} {d} l) = ap (λ o. bind o (λ es. parsed ((value_of m, value_of d) ∷ es))) (dates_read l)

a_setting_read : {o : Opening} {ps : List Placed} → Says o ps → a_setting ps ≡ parsed o []
unfolding setting_word the_beginning a_number the_end
a_setting_read says_pairs = refl
a_setting_read (says_dates l) = ap (λ o. bind o (λ ds. parsed (dates ds))) (dates_read l)
a_setting_read says_circle = refl
a_setting_read says_queue = refl

a_call_read : {q : Request} {ps : List Placed} → Asks q ps → a_call ps ≡ parsed q []
unfolding call_word the_beginning the_end perhaps
a_call_read (asks_where b d) = ap (λ o. bind o (λ x r. bind (the_end r) (λ _. parsed (marks x)))) (sentence_reads d (place done b ∷ []) (omega arith) refl refl refl)
a_call_read asks_verdict = refl

-- what was accepted was read
answered : {X : Type 0} (o : Outcome X) (x : X) → answer o ≡ accepted x → (left : List Placed) × (o ≡ parsed x left)
answered (fault f) x e = absurd (let z : ◌≡◌ {A = ℕ} 0 1 = cc in omega arith)
answered (parsed y ps) x e = (ps, let same : y ≡ x = cc in ap (λ z. parsed z ps) same)

pub settings_read : SettingsRead
settings_read line o short =
    let by-pieces = (lines_by_pieces line short).0 in (
      (λ e. let r = answered (a_setting (pieces_from line 0)) o (ap answer (sym by-pieces) ∙ e) in a_setting_said (pieces_from line 0) o r.0 (lines_end line) r.1),
      λ s. ap answer (by-pieces ∙ a_setting_read s),
    )

-- a request that was accepted was read, and its nodes found a place
called : (ns : List Node) (o : Outcome Request) (q : Request) → unless_full ns o ≡ accepted q → (left : List Placed) × ((o ≡ parsed q left) × ((writing q (holding ns)).full ≡ false))
called ns (fault f) q e = absurd (let z : ◌≡◌ {A = ℕ} 0 1 = cc in omega arith)
called ns (parsed r ps) q e = by (writing r (holding ns)).full refl e
  where
    by : (b : Bool) → (writing r (holding ns)).full ≡ b → cond b (refused (record { number = 16; column = 0 })) (accepted r) ≡ accepted q → (left : List Placed) × ((parsed r ps ≡ parsed q left) × ((writing q (holding ns)).full ≡ false))
    by true is e = absurd (let z : ◌≡◌ {A = ℕ} 0 1 = cc in omega arith)
    by false is e = let same : r ≡ q = cc in (ps, (ap (λ z. parsed z ps) same, sym (ap (λ z. (writing z (holding ns)).full) same) ∙ is))

pub calls_read : CallsRead
calls_read line ns q short =
    let by-pieces = (lines_by_pieces line short).1 in (
      (λ e.
          let r = called ns (a_call (pieces_from line 0)) q (ap (unless_full ns) (sym by-pieces) ∙ e) in
          (a_call_said (pieces_from line 0) q r.0 (lines_end line) r.1.0, r.1.1)),
      λ s room. ap (unless_full ns) (by-pieces ∙ a_call_read s) ∙ cond-false (writing q (holding ns)).full (refused (record { number = 16; column = 0 })) (accepted q) room,
    )
