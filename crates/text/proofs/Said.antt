-- What each reader has read where it gives a value: the pieces that it passed, without their columns.
use Rattle.std.proofs.Common.{◌≡◌, ℕ, zero, suc, ◌+◌, Bool, true, false, cond, List, [], ◌∷◌, drop, Some, None, Option, sym, refl, ap, subst, arith}
use Rattle.lexer.specs.declared.tokens.Class.TheVariants.{Space, Digit, Letter}
use Rattle.lexer.specs.declared.tokens.Sign.{Sign}
use Rattle.lexer.specs.Bytes.{belongs, sign_of, value_of}
use Rattle.lexer.specs.Tokens.{Piece, number, word, sign, bad, done, Placed, piece_at, mark, more, scan, pieces_from}
use Rattle.lexer.specs.Faults.{Fault}
use Rattle.formulas.specs.Reading.{Outcome, fault, parsed, Reader, bind, at, number_or, a_number, end_in, the_end}
use Rattle.lines.specs.Reading.{before, dates_after, Beginning, beginning_in, the_beginning, rest_of, following}
use Rattle.text.specs.Laws.{bare, Lists, no_more, one_more}

-- nothing comes after the end
abbrev pub Ends : Piece → List Placed → Type 0
Ends (number ds) ps = Unit {0}
Ends (word w) ps = Unit {0}
Ends (sign s) ps = Unit {0}
Ends (bad n) ps = Unit {0}
Ends done ps = ps ≡ []

abbrev pub Closed : List Placed → Type 0
Closed [] = Unit {0}
Closed (p ∷ ps) = Ends p.piece ps × Closed ps

ends_cond : (b : Bool) (p q : Piece) (ps : List Placed) → Ends p ps → Ends q ps → Ends (cond b p q) ps
ends_cond true p q ps h k = h
ends_cond false p q ps h k = k

ends_mark : (o : Option Sign) (ps : List Placed) → Ends (mark o) ps
ends_mark (Some s) ps = tt
ends_mark None ps = tt

ends_piece : (b : ℕ) (bs : List ℕ) (ps : List Placed) → Ends (piece_at b bs) ps
ends_piece b bs ps = ends_cond (belongs Digit b) _ _ ps (ends_cond _ (number _) (bad 13) ps tt tt) (ends_cond (belongs Letter b) (word _) _ ps tt (ends_mark (sign_of b) ps))

closed_cond : (b : Bool) (ps qs : List Placed) → Closed ps → Closed qs → Closed (cond b ps qs)
closed_cond true ps qs h k = h
closed_cond false ps qs h k = k

scan_closed : (skip c : ℕ) (bs : List ℕ) → Closed (scan skip c bs)
scan_closed zero c [] = (refl, tt)
scan_closed (suc k) c [] = (refl, tt)
scan_closed zero c (b ∷ bs) = closed_cond (belongs Space b) _ _ (scan_closed 0 (c + 1) bs) (ends_piece b bs _, scan_closed (more b bs) (c + 1) bs)
scan_closed (suc k) c (b ∷ bs) = scan_closed k (c + 1) bs

pub pieces_closed : (line : List ℕ) (at : ℕ) → Closed (pieces_from line at)
unfolding pieces_from
pieces_closed line at = scan_closed 0 _ (drop at line)

module _ {X : Type 0} where
  -- a fault gives nothing
  pub not_parsed : {e : Fault} {x : X} {ps : List Placed} → fault e ≡ parsed x ps → ⊥
  not_parsed {e} {x} {ps} h = let z : ◌≡◌ {A = ℕ} 0 1 = cc in omega arith

  pub bind_said : {Y : Type 0} (o : Outcome X) (k : X → Reader Y) (y : Y) (rest : List Placed) → bind o k ≡ parsed y rest
      → (x : X) × (ps : List Placed) × (o ≡ parsed x ps) × (k x ps ≡ parsed y rest)
  bind_said (fault f) k y rest h = absurd (never h)
    where
      never : fault f ≡ parsed y rest → ⊥
      never g = let z : ◌≡◌ {A = ℕ} 0 1 = cc in omega arith
  bind_said (parsed x ps) k y rest h = (x, ps, refl, h)

pub number_said : (ps : List Placed) (n : ℕ) (rest : List Placed) → Closed ps → a_number ps ≡ parsed n rest
    → (ds : List ℕ) × (value_of ds ≡ n) × (bare ps ≡ number ds ∷ bare rest) × Closed rest
unfolding a_number
number_said [] n rest h e = absurd (not_parsed e)
number_said (p ∷ ps) n rest h e = by_piece p.piece e
  where
    by_piece : (q : Piece) → number_or p.column q (λ m. parsed m ps) (at 14 p.column) ≡ parsed n rest
        → (ds : List ℕ) × (value_of ds ≡ n) × (q ∷ bare ps ≡ number ds ∷ bare rest) × Closed rest
    by_piece (number ds) f =
        let same : ps ≡ rest = cc in
        (ds, (cc), ap (λ l. number ds ∷ bare l) same, subst Closed same h.1)
    by_piece (word w) f = absurd (not_parsed f)
    by_piece (sign s) f = absurd (not_parsed f)
    by_piece (bad k) f = absurd (not_parsed f)
    by_piece done f = absurd (not_parsed f)

pub end_said : (ps : List Placed) (u : Unit {0}) (rest : List Placed) → Closed ps → the_end ps ≡ parsed u rest → bare ps ≡ done ∷ []
unfolding the_end
end_said [] u rest h e = absurd (not_parsed e)
end_said (p ∷ ps) u rest h e = by_piece p.piece h.0 e
  where
    by_piece : (q : Piece) → Ends q ps → end_in p.column q ≡ parsed u rest → q ∷ bare ps ≡ done ∷ []
    by_piece (number ds) k f = absurd (not_parsed f)
    by_piece (word w) k f = absurd (not_parsed f)
    by_piece (sign s) k f = absurd (not_parsed f)
    by_piece (bad n) k f = absurd (not_parsed f)
    by_piece done k f = ap (λ l. done ∷ bare l) k

pub beginning_said : (ps : List Placed) (b : Beginning) (rest : List Placed) → Closed ps → the_beginning ps ≡ parsed b rest
    → (bare ps ≡ word b.letters ∷ bare rest) × Closed rest
unfolding the_beginning
beginning_said [] b rest h e = absurd (not_parsed e)
beginning_said (p ∷ ps) b rest h e = by_piece p.piece e
  where
    by_piece : (q : Piece) → beginning_in p.column q ps ≡ parsed b rest → (q ∷ bare ps ≡ word b.letters ∷ bare rest) × Closed rest
    by_piece (number ds) f = absurd (not_parsed f)
    by_piece (word w) f =
        let same : ps ≡ rest = cc in
        let first : record { letters = w; column = p.column } ≡ b = cc in
        ((λ i. word (first i).letters ∷ bare (same i)), subst Closed same h.1)
    by_piece (sign s) f = absurd (not_parsed f)
    by_piece (bad n) f = absurd (not_parsed f)
    by_piece done f = absurd (not_parsed f)

-- dates, and after a month that waits, its day and then dates
abbrev ListsAfter : Option ℕ → List (ℕ × ℕ) → List Piece → Type 0
ListsAfter None ds qs = Lists ds qs
ListsAfter (Some m) ds qs = (d : List ℕ) × (es : List (ℕ × ℕ)) × (rs : List Piece) × (ds ≡ (m, value_of d) ∷ es) × (qs ≡ number d ∷ rs) × Lists es rs

lists_as : (ds es : List (ℕ × ℕ)) (qs rs : List Piece) → ds ≡ es → qs ≡ rs → Lists ds qs → Lists es rs
lists_as ds es qs rs p q l = subst (λ x. Lists x rs) p (subst (λ y. Lists ds y) q l)

pub dates_said : (waiting : Option ℕ) (ps : List Placed) (ds : List (ℕ × ℕ)) (rest : List Placed) → Closed ps → dates_after waiting ps ≡ parsed ds rest → ListsAfter waiting ds (bare ps)
unfolding dates_after
dates_said None [] ds rest h e = absurd (not_parsed e)
dates_said (Some m) [] ds rest h e = absurd (not_parsed e)
dates_said None (p ∷ ps) ds rest h e = by_piece (λ m. dates_said (Some m) ps ds rest h.1) p.piece h.0 e
  where
    by_piece : ((m : ℕ) → dates_after (Some m) ps ≡ parsed ds rest → ListsAfter (Some m) ds (bare ps)) → (q : Piece) → Ends q ps
        → number_or p.column q (λ m. dates_after (Some m) ps) (parsed [] []) ≡ parsed ds rest → Lists ds (q ∷ bare ps)
    by_piece ih (number m) k f =
        let day = ih (value_of m) f in
        lists_as ((value_of m, value_of day.0) ∷ day.1) ds (number m ∷ number day.0 ∷ day.2) (number m ∷ bare ps) (sym day.3) (ap (λ l. number m ∷ l) (sym day.4)) (one_more day.5)
    by_piece ih (word w) k f = absurd (not_parsed f)
    by_piece ih (sign s) k f = absurd (not_parsed f)
    by_piece ih (bad n) k f = absurd (not_parsed f)
    by_piece ih done k f = let none : [] ≡ ds = cc in lists_as [] ds (done ∷ []) (done ∷ bare ps) none (ap (λ l. done ∷ bare l) (sym k)) no_more
dates_said (Some m) (p ∷ ps) ds rest h e = by_piece (λ es r. dates_said None ps es r h.1) p.piece e
  where
    by_piece : ((es : List (ℕ × ℕ)) (r : List Placed) → dates_after None ps ≡ parsed es r → Lists es (bare ps)) → (q : Piece)
        → number_or p.column q (λ d. before ((m, d) ∷ []) (dates_after None ps)) (at 14 p.column) ≡ parsed ds rest → ListsAfter (Some m) ds (q ∷ bare ps)
    by_piece ih (number d) f =
        let b = bind_said (dates_after None ps) (λ es. parsed ((m, value_of d) ∷ es)) ds rest f in
        let same : parsed ((m, value_of d) ∷ b.0) b.1 ≡ parsed ds rest = b.3 in
        (d, b.0, bare ps, (cc), refl, ih b.0 b.1 b.2)
    by_piece ih (word w) f = absurd (not_parsed f)
    by_piece ih (sign s) f = absurd (not_parsed f)
    by_piece ih (bad n) f = absurd (not_parsed f)
    by_piece ih done f = absurd (not_parsed f)

-- a line that is read begins with a word that is known
pub line_said : {W X : Type 0} (known : List ℕ → Option W) (rest : W → Reader X) (ps : List Placed) (x : X) (left : List Placed) → Closed ps → following known rest (the_beginning ps) ≡ parsed x left
    → (w : List ℕ) × (v : W) × (qs : List Placed) × (known w ≡ Some v) × (bare ps ≡ word w ∷ bare qs) × (rest v qs ≡ parsed x left) × Closed qs
line_said {W} {X} known rest ps x left h e =
    let b = bind_said (the_beginning ps) (λ f. rest_of rest f.column (known f.letters)) x left e in
    let s = beginning_said ps b.0 b.1 h b.2 in
    by_word b.0.letters b.0.column b.1 (known b.0.letters) refl s.0 s.1 b.3
  where
    by_word : (w : List ℕ) (c : ℕ) (qs : List Placed) (o : Option W) → known w ≡ o → bare ps ≡ word w ∷ bare qs → Closed qs → rest_of rest c o qs ≡ parsed x left
        → (u : List ℕ) × (v : W) × (rs : List Placed) × (known u ≡ Some v) × (bare ps ≡ word u ∷ bare rs) × (rest v rs ≡ parsed x left) × Closed rs
    by_word w c qs None k p cl f = absurd (not_parsed f)
    by_word w c qs (Some v) k p cl f = (w, v, qs, k, p, f, cl)
