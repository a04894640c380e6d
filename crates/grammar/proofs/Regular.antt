-- Readers that look one piece ahead at most. What such a reader gives goes by the pieces that it passes, and where it stops at a fault the pieces before can be completed.
use Rattle.std.proofs.Common.{◌≡◌, List, [], ◌∷◌, ◌++◌, sym, refl, ap, ◌∙◌, subst, append_assoc}
use Rattle.lexer.specs.Faults.{Fault}
use Rattle.lexer.specs.Tokens.{Piece, Placed}
use Rattle.formulas.specs.Reading.{Outcome, fault, parsed, Reader, bind}
use Rattle.grammar.specs.Faults.{Inside, Ended, end_alone, one_before}
use Rattle.grammar.proofs.Sound.{no_parse, same_value, same_rest}
use Rattle.grammar.proofs.Fillers.{Closes, Filler, Puts, puts_none, parts, Extent, part, whole, After, left, puts_close}

-- r' begins as r does, or with what may follow anything
pub data Like : List Placed → List Placed → Type 0 where
  same : (p : Placed) (a b : List Placed) → Like (p ∷ a) (p ∷ b)
  closed : {r r' : List Placed} → Closes r' → Like r r'

like_behind : (front r r' : List Placed) → Like r r' → Like (front ++ r) (front ++ r')
like_behind [] r r' l = l
like_behind (p ∷ front) r r' l = same p (front ++ r) (front ++ r')

like_from : (ps front r r' : List Placed) → ps ≡ front ++ r → Like r r' → Like ps (front ++ r')
like_from ps front r r' e l = let P : List Placed → Type 0 = λ q. Like q (front ++ r') in subst P (sym e) (like_behind front r r' l)

pub inside_as : (p : Placed) (q : Piece) → p.piece ≡ q → Inside q → Inside p.piece
inside_as p q is inside = let P : Piece → Type 0 = λ r. Inside r in subst P (sym is) inside

-- what comes behind a piece that is not the end
pub ended_rest : (p : Placed) (ps : List Placed) → Inside p.piece → Ended (p ∷ ps) → Ended ps
ended_rest p ps h (end_alone c) = absurd h
ended_rest p ps h (one_before q inside e) = e

-- x was read from the pieces before rest, and is read from them before whatever begins like rest
pub record Reads {X : Type 0} (read : Reader X) (ps : List Placed) (x : X) (rest : List Placed) : Type 0 where
  pub front : List Placed
  pub split : ps ≡ front ++ rest
  pub again : (rest' : List Placed) → Like rest rest' → read (front ++ rest') ≡ parsed x rest'
  pub ended : Ended rest

-- the reader stops at a piece, whatever follows it, and what stands before it can be completed
pub record Stops (k : Extent) {X : Type 0} (read : Reader X) (ps : List Placed) (e : Fault) : Type 0 where
  pub front : List Placed
  pub here : Placed
  pub rest : List Placed
  pub split : ps ≡ front ++ here ∷ rest
  pub column : here.column ≡ e.column
  pub again : (more : List Placed) → read (front ++ here ∷ more) ≡ fault e
  pub value : X
  pub more : List Filler
  pub completes : (ms after : List Placed) → After k after → Puts more ms after → read (front ++ ms) ≡ parsed value (left k after)

-- there is something to read
pub record Begins (k : Extent) {X : Type 0} (read : Reader X) : Type 0 where
  pub value : X
  pub more : List Filler
  pub reads : (ms after : List Placed) → After k after → Puts more ms after → read ms ≡ parsed value (left k after)

abbrev pub Reading : Extent → {X : Type 0} → Reader X → Type 0
Reading part {X} read = (ps : List Placed) → Ended ps → (x : X) (rest : List Placed) → read ps ≡ parsed x rest → Reads read ps x rest
Reading whole read = Unit {0}

pub record Regular (k : Extent) {X : Type 0} (read : Reader X) : Type 0 where
  pub begins : Begins k read
  pub reading : Reading k read
  pub stops : (ps : List Placed) → Ended ps → (e : Fault) → read ps ≡ fault e → Stops k read ps e

-- a reader that takes nothing
pub gives : {X : Type 0} (x : X) → Regular part (parsed x)
gives {X} x =
    record {
      begins = record { value = x; more = []; reads = λ ms after c p. ap (parsed x) (puts_none p) };
      reading = λ ps ended y rest e.
          let P : List Placed → Type 0 = λ l. Ended l in
          record { front = []; split = same_rest x y ps rest e; again = λ rest' l. ap (λ z. parsed z rest') (same_value x y ps rest e); ended = subst P (same_rest x y ps rest e) ended };
      stops = λ ps ended e is. absurd (no_parse e x ps (sym is));
    }

module _ {X Y : Type 0} (first : Reader X) (next : X → Reader Y) where
  abbrev pub one_then : Reader Y
  one_then ps = bind (first ps) next

  module _ (r : Regular part first) where
    then_reading : ((x : X) → Reading part (next x)) → Reading part one_then
    then_reading go ps ended y rest e = by (first ps) refl e
      where
        by : (o : Outcome X) → first ps ≡ o → bind o next ≡ parsed y rest → Reads one_then ps y rest
        by (fault f) is e = absurd (no_parse f y rest e)
        by (parsed x mid) is e =
            let a = r.reading ps ended x mid is in
            let b = go x mid a.ended y rest e in
            record {
              front = a.front ++ b.front;
              split = a.split ∙ ap (λ l. a.front ++ l) b.split ∙ sym (append_assoc a.front b.front rest);
              again = λ rest' l.
                  ap one_then (append_assoc a.front b.front rest')
                  ∙ ap (λ o. bind o next) (a.again (b.front ++ rest') (like_from mid b.front rest rest' b.split l))
                  ∙ b.again rest' l;
              ended = b.ended;
            }

    reading_either : (k : Extent) → ((x : X) → Reading k (next x)) → Reading k one_then
    reading_either part go = then_reading go
    reading_either whole go = tt

    module _ (k : Extent) (go : (x : X) → Regular k (next x)) where
      then_begins : Begins k one_then
      then_begins =
          let a = r.begins in
          let b = (go a.value).begins in
          record {
            value = b.value;
            more = a.more ++ b.more;
            reads = λ ms after c p.
                let s = parts a.more b.more ms after p in
                ap (λ o. bind o next) (a.reads ms s.mid (puts_close k b.more s.mid after c s.second) s.first) ∙ b.reads s.mid after c s.second;
          }

      -- the fault is the first reader's
      stops_first : (ps : List Placed) (e : Fault) → Stops part first ps e → Stops k one_then ps e
      stops_first ps e a =
          let b = (go a.value).begins in
          record {
            front = a.front;
            here = a.here;
            rest = a.rest;
            split = a.split;
            column = a.column;
            again = λ more. ap (λ o. bind o next) (a.again more);
            value = b.value;
            more = a.more ++ b.more;
            completes = λ ms after c p.
                let s = parts a.more b.more ms after p in
                ap (λ o. bind o next) (a.completes ms s.mid (puts_close k b.more s.mid after c s.second) s.first) ∙ b.reads s.mid after c s.second;
          }

      -- or it comes behind what the first reader read
      stops_next : (ps : List Placed) (e : Fault) (x : X) (mid : List Placed) → Reads first ps x mid → Stops k (next x) mid e → Stops k one_then ps e
      stops_next ps e x mid a b =
          record {
            front = a.front ++ b.front;
            here = b.here;
            rest = b.rest;
            split = a.split ∙ ap (λ l. a.front ++ l) b.split ∙ sym (append_assoc a.front b.front (b.here ∷ b.rest));
            column = b.column;
            again = λ more.
                ap one_then (append_assoc a.front b.front (b.here ∷ more))
                ∙ ap (λ o. bind o next) (a.again (b.front ++ b.here ∷ more) (like_from mid b.front (b.here ∷ b.rest) (b.here ∷ more) b.split (same b.here b.rest more)))
                ∙ b.again more;
            value = b.value;
            more = b.more;
            completes = λ ms after c p.
                ap one_then (append_assoc a.front b.front ms)
                ∙ ap (λ o. bind o next) (a.again (b.front ++ ms) (like_from mid b.front (b.here ∷ b.rest) ms b.split (closed (puts_close k b.more ms after c p)))) ∙ b.completes ms after c p;
          }

      -- one regular reader after another
      pub then_regular : Regular k one_then
      then_regular = record { begins = then_begins; reading = reading_either k (λ x. (go x).reading); stops = λ ps ended e is. by ps ended e (first ps) refl is }
        where
          by : (ps : List Placed) → Ended ps → (e : Fault) (o : Outcome X) → first ps ≡ o → bind o next ≡ fault e → Stops k one_then ps e
          by ps ended e (fault f) was is = stops_first ps e (r.stops ps ended e (was ∙ (let q : fault f ≡ fault e = cc in q)))
          by ps ended e (parsed x mid) was is =
              let a = r.reading ps ended x mid was in
              stops_next ps e x mid a ((go x).stops mid a.ended e is)
