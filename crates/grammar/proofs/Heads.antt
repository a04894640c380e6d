-- Readers that go by the first piece.
use Rattle.std.proofs.Common.{◌≡◌, ℕ, true, eqb, List, [], ◌∷◌, ◌++◌, Some, None, Option, sym, refl, ap, ◌∙◌, subst, ⊎_elim, arith}
use Rattle.std.proofs.lemmas.Bool.{cases_Bool, cond-true, cond-false}
use Rattle.lexer.specs.declared.tokens.Sign.{Sign}
use Rattle.lexer.specs.Faults.{Fault}
use Rattle.lexer.specs.Bytes.{value_of}
use Rattle.lexer.specs.Tiles.{byte_of}
use Rattle.lexer.specs.Tokens.{Piece, number, word, sign, bad, done, Placed}
use Rattle.formulas.specs.Reading.{Outcome, fault, parsed, Reader, bind, at, number_or, a_number, sign_in, perhaps, the_sign_in, the_sign}
use Rattle.grammar.specs.Grammar.{place}
use Rattle.grammar.specs.Faults.{Inside, Ended}
use Rattle.grammar.proofs.Sound.{no_parse, same_value, same_rest}
use Rattle.grammar.proofs.Fillers.{Closes, Filler, filled, zero_here, puts_none, puts_first, Extent, part, whole, left}
use Rattle.grammar.proofs.Regular.{Like, same, closed, inside_as, ended_rest, Reads, Stops, Begins, Reading, Regular, gives}

-- a reader that is to be at a line's end
abbrev pub Whole : Extent → Type 0
Whole part = ⊥
Whole whole = Unit {0}

-- what a reader does at the piece p: it is a fault; it is taken, and another reader goes on; it is left; or it is the end
pub data Head (k : Extent) {X : Type 0} (read : Reader X) (p : Placed) : Type 0 where
  wrong : (n : ℕ) → ((l : List Placed) → read (p ∷ l) ≡ at n p.column) → Head k read p
  takes : Inside p.piece → (next : Reader X) → Regular k next → ((l : List Placed) → read (p ∷ l) ≡ next l) → Head k read p
  leaves : (x : X) → ((l : List Placed) → read (p ∷ l) ≡ parsed x (p ∷ l)) → ((rest : List Placed) → Closes rest → read rest ≡ parsed x rest) → Head k read p
  ends : Whole k → (x : X) → ((l : List Placed) → read (p ∷ l) ≡ parsed x []) → Head k read p

-- a fault behind the piece p
pub stops_behind : (k : Extent) {X : Type 0} (read : Reader X) (p : Placed) (ps : List Placed) (e : Fault) (next : Reader X) → ((l : List Placed) → read (p ∷ l) ≡ next l) → Stops k next ps e → Stops k read (p ∷ ps) e
stops_behind k read p ps e next is b =
    record {
      front = p ∷ b.front;
      here = b.here;
      rest = b.rest;
      split = ap (λ l. p ∷ l) b.split;
      column = b.column;
      again = λ more. is (b.front ++ b.here ∷ more) ∙ b.again more;
      value = b.value;
      more = b.more;
      completes = λ ms after c q. is (b.front ++ ms) ∙ b.completes ms after c q;
    }

-- a fault at the piece p
pub stops_here : (k : Extent) {X : Type 0} (read : Reader X) → Begins k read → (p : Placed) (ps : List Placed) (e : Fault) (n : ℕ) → ((l : List Placed) → read (p ∷ l) ≡ at n p.column) → read (p ∷ ps) ≡ fault e → Stops k read (p ∷ ps) e
stops_here k read begins p ps e n all is =
    let same-fault : record { number = n; column = p.column } ≡ e = let q = sym (all ps) ∙ is in cc in
    record {
      front = [];
      here = p;
      rest = ps;
      split = refl;
      column = ap (λ (f : Fault). f.column) same-fault;
      again = λ more. all more ∙ ap fault same-fault;
      value = begins.value;
      more = begins.more;
      completes = begins.reads;
    }

module _ (k : Extent) {X : Type 0} (read : Reader X) (head : (p : Placed) → Head k read p) (begins : Begins k read) where
  stops_at : (p : Placed) (ps : List Placed) → Ended (p ∷ ps) → (e : Fault) → Head k read p → read (p ∷ ps) ≡ fault e → Stops k read (p ∷ ps) e
  stops_at p ps ended e (wrong n all) is = stops_here k read begins p ps e n all is
  stops_at p ps ended e (takes inside next r all) is = stops_behind k read p ps e next all (r.stops ps (ended_rest p ps inside ended) e (sym (all ps) ∙ is))
  stops_at p ps ended e (leaves x all closing) is = absurd (no_parse e x (p ∷ ps) (sym is ∙ all ps))
  stops_at p ps ended e (ends w x all) is = absurd (no_parse e x [] (sym is ∙ all ps))

  stops_headed : (ps : List Placed) → Ended ps → (e : Fault) → read ps ≡ fault e → Stops k read ps e
  stops_headed [] ended e is = elim ended [ ]
  stops_headed (p ∷ ps) ended e is = stops_at p ps ended e (head p) is

-- what is left is left before whatever begins the same
left_again : {X : Type 0} (read : Reader X) (x : X) (p : Placed) (ps rest : List Placed) → Like (p ∷ ps) rest → ((l : List Placed) → read (p ∷ l) ≡ parsed x (p ∷ l)) → ((rest : List Placed) → Closes rest → read rest ≡ parsed x rest) → read rest ≡ parsed x rest
left_again read x p ps rest (same q a b) all closing = all b
left_again read x p ps rest (closed c) all closing = closing rest c

reads_at : {X : Type 0} (read : Reader X) (p : Placed) (ps : List Placed) → Ended (p ∷ ps) → (x : X) (rest : List Placed) → Head part read p → read (p ∷ ps) ≡ parsed x rest → Reads read (p ∷ ps) x rest
reads_at read p ps ended x rest (wrong n all) is = absurd (no_parse _ x rest (sym (all ps) ∙ is))
reads_at read p ps ended x rest (takes inside next r all) is =
    let b = r.reading ps (ended_rest p ps inside ended) x rest (sym (all ps) ∙ is) in
    record { front = p ∷ b.front; split = ap (λ l. p ∷ l) b.split; again = λ rest' l. all (b.front ++ rest') ∙ b.again rest' l; ended = b.ended }
reads_at read p ps ended x rest (leaves y all closing) is =
    let e = sym (all ps) ∙ is in
    let there = same_rest y x (p ∷ ps) rest e in
    let P : List Placed → Type 0 = λ l. Ended l in
    record {
      front = [];
      split = there;
      again = λ rest' l.
          let Q : List Placed → Type 0 = λ q. Like q rest' in
          left_again read y p ps rest' (subst Q (sym there) l) all closing ∙ ap (λ z. parsed z rest') (same_value y x (p ∷ ps) rest e);
      ended = subst P there ended;
    }
reads_at read p ps ended x rest (ends w y all) is = absurd w

reads_headed : (k : Extent) {X : Type 0} (read : Reader X) → ((p : Placed) → Head k read p) → Reading k read
reads_headed part read head = go
  where
    go : Reading part read
    go [] ended x rest is = elim ended [ ]
    go (p ∷ ps) ended x rest is = reads_at read p ps ended x rest (head p) is
reads_headed whole read head = tt

pub headed : (k : Extent) {X : Type 0} (read : Reader X) → ((p : Placed) → Head k read p) → Begins k read → Regular k read
headed k read head begins = record { begins = begins; reading = reads_headed k read head; stops = stops_headed k read head begins }

number_head : (p : Placed) → Head part a_number p
unfolding a_number
number_head p = by p.piece refl
  where
    here : List Placed → Piece → Outcome ℕ
    here l q = number_or p.column q (λ n. parsed n l) (at 14 p.column)

    by : (q : Piece) → p.piece ≡ q → Head part a_number p
    by (number ds) is = takes (inside_as p (number ds) is tt) (parsed (value_of ds)) (gives (value_of ds)) (λ l. ap (here l) is)
    by (word w) is = wrong 14 (λ l. ap (here l) is)
    by (sign s) is = wrong 14 (λ l. ap (here l) is)
    by (bad n) is = wrong n (λ l. ap (here l) is)
    by done is = wrong 14 (λ l. ap (here l) is)

pub number_regular : Regular part a_number
unfolding a_number
number_regular = headed part a_number number_head (record { value = 0; more = zero_here ∷ []; reads = λ ms after c p. puts_first p (λ l. a_number l ≡ parsed 0 after) (λ d l q. ap (parsed 0) (puts_none q)) })

-- whether s stands at p
pub data Look (s : Sign) (p : Placed) : Type 0 where
  is_bad : (n : ℕ) → p.piece ≡ bad n → Look s p
  there : (t : Sign) → p.piece ≡ sign t → eqb (byte_of s) (byte_of t) ≡ true → Look s p
  other : ((l : List Placed) → perhaps s (p ∷ l) ≡ parsed None (p ∷ l)) → ((l : List Placed) → the_sign s (p ∷ l) ≡ at 14 p.column) → Look s p

look : (s : Sign) (p : Placed) → Look s p
unfolding perhaps the_sign
look s p = by p.piece refl
  where
    by : (q : Piece) → p.piece ≡ q → Look s p
    by (number ds) is = other (λ l. ap (λ q. sign_in s (p ∷ l) p.column q l) is) (λ l. ap (λ q. the_sign_in s p.column q l) is)
    by (word w) is = other (λ l. ap (λ q. sign_in s (p ∷ l) p.column q l) is) (λ l. ap (λ q. the_sign_in s p.column q l) is)
    by (sign t) is =
        ⊎_elim (λ b. there t is b)
        (λ b. other
        (λ l. ap (λ q. sign_in s (p ∷ l) p.column q l) is ∙ cond-false (eqb (byte_of s) (byte_of t)) (parsed (Some p.column) l) (parsed None (p ∷ l)) b)
        (λ l. ap (λ q. the_sign_in s p.column q l) is ∙ cond-false (eqb (byte_of s) (byte_of t)) (parsed p.column l) (at 14 p.column) b))
        (cases_Bool (eqb (byte_of s) (byte_of t)))
    by (bad n) is = is_bad n is
    by done is = other (λ l. ap (λ q. sign_in s (p ∷ l) p.column q l) is) (λ l. ap (λ q. the_sign_in s p.column q l) is)

module _ (k : Extent) {X : Type 0} (s : Sign) (f : Filler) (is-it : (c : ℕ) (l : List Placed) → the_sign s (place (filled f) c ∷ l) ≡ parsed c l) (next : Reader X) (r : Regular k next) where
  abbrev sign_then : Reader X
  sign_then ps = bind (the_sign s ps) (λ _. next)

  sign_head : (p : Placed) → Look s p → Head k sign_then p
  unfolding the_sign
  sign_head p (is_bad n is) = wrong n (λ l. ap (λ q. bind (the_sign_in s p.column q l) (λ _. next)) is)
  sign_head p (there t is b) =
      takes (inside_as p (sign t) is tt) next r
      (λ l. ap (λ o. bind o (λ _. next)) (ap (λ q. the_sign_in s p.column q l) is ∙ cond-true (eqb (byte_of s) (byte_of t)) (parsed p.column l) (at 14 p.column) b))
  sign_head p (other none not) = wrong 14 (λ l. ap (λ o. bind o (λ _. next)) (not l))

  -- the sign s, which is a filler, and another reader after it
  pub sign_regular : Regular k sign_then
  sign_regular =
      let b = r.begins in
      headed k sign_then (λ p. sign_head p (look s p))
      (record {
        value = b.value;
        more = f ∷ b.more;
        reads = λ ms after c p. puts_first p (λ l. sign_then l ≡ parsed b.value (left k after)) (λ d l q. ap (λ o. bind o (λ _. next)) (is-it d l) ∙ b.reads l after c q);
      })

module _ {X : Type 0} (s : Sign) (closing : (rest : List Placed) → Closes rest → perhaps s rest ≡ parsed None rest) (next : Option ℕ → Reader X) (x : X) (none : next None ≡ parsed x) where
  abbrev perhaps_then : Reader X
  perhaps_then ps = bind (perhaps s ps) next

  -- what follows the sign, at its column: a reader goes on, or the sign itself is a fault
  pub data SomeNext (c : ℕ) : Type 0 where
    goes : Regular part (next (Some c)) → SomeNext c
    stuck : (n : ℕ) → ((l : List Placed) → next (Some c) l ≡ at n c) → SomeNext c

  perhaps_head : (p : Placed) → Look s p → SomeNext p.column → Head part perhaps_then p
  unfolding perhaps
  perhaps_head p (is_bad n is) go = wrong n (λ l. ap (λ q. bind (sign_in s (p ∷ l) p.column q l) next) is)
  perhaps_head p (there t is b) (goes r) =
      takes (inside_as p (sign t) is tt) (next (Some p.column)) r
      (λ l. ap (λ q. bind (sign_in s (p ∷ l) p.column q l) next) is ∙ ap (λ o. bind o next) (cond-true (eqb (byte_of s) (byte_of t)) (parsed (Some p.column) l) (parsed None (p ∷ l)) b))
  perhaps_head p (there t is b) (stuck n all) =
      wrong n (λ l. ap (λ q. bind (sign_in s (p ∷ l) p.column q l) next) is ∙ ap (λ o. bind o next) (cond-true (eqb (byte_of s) (byte_of t)) (parsed (Some p.column) l) (parsed None (p ∷ l)) b) ∙ all l)
  perhaps_head p (other none-there not) go = leaves x (λ l. ap (λ o. bind o next) (none-there l) ∙ (λ i. none i (p ∷ l))) (λ rest c. ap (λ o. bind o next) (closing rest c) ∙ (λ i. none i rest))

  -- the sign s may come, or not
  pub perhaps_regular : ((c : ℕ) → SomeNext c) → Regular part perhaps_then
  perhaps_regular go = headed part perhaps_then (λ p. perhaps_head p (look s p) (go p.column))
      (record {
        value = x;
        more = [];
        reads = λ ms after c p. ap perhaps_then (puts_none p) ∙ ap (λ o. bind o next) (closing after c) ∙ (λ i. none i after);
      })

-- where s does not come, it does not come before whatever begins the same
pub perhaps_like : (s : Sign) → ((rest : List Placed) → Closes rest → perhaps s rest ≡ parsed None rest) → (r r' : List Placed) → Like r r' → perhaps s r ≡ parsed None r → perhaps s r' ≡ parsed None r'
unfolding perhaps
perhaps_like s closing r r' (closed c) e = closing r' c
perhaps_like s closing r r' (same p a b) e = by (look s p)
  where
    by : Look s p → perhaps s (p ∷ b) ≡ parsed None (p ∷ b)
    by (is_bad n is) = absurd (no_parse _ None (p ∷ a) (sym (ap (λ q. sign_in s (p ∷ a) p.column q a) is) ∙ e))
    by (there t is h) =
        let q : parsed (Some p.column) a ≡ parsed None (p ∷ a) = sym (cond-true (eqb (byte_of s) (byte_of t)) (parsed (Some p.column) a) (parsed None (p ∷ a)) h) ∙ sym (ap (λ q. sign_in s (p ∷ a) p.column q a) is) ∙ e in
        let z : ◌≡◌ {A = ℕ} 0 1 = cc in absurd (omega arith)
    by (other none not) = none b
