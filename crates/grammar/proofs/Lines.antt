-- Whole lines are read by regular readers.
use Rattle.std.proofs.Common.{◌≡◌, ℕ, List, [], ◌∷◌, ◌++◌, Some, None, Option, sym, refl, ap, ◌∙◌}
use Rattle.lexer.specs.Bytes.{value_of}
use Rattle.lexer.specs.Faults.{Fault}
use Rattle.lexer.specs.Tokens.{Piece, number, word, sign, bad, done, Placed}
use Rattle.formulas.specs.Reading.{Outcome, fault, parsed, Reader, bind, at, number_or, a_number, end_in, the_end}
use Rattle.formulas.specs.Readers.{disjunction}
use Rattle.lines.specs.declared.settings.SettingWord.{SettingWord}
use Rattle.lines.specs.declared.settings.SettingWord.TheVariants as sets
use Rattle.lines.specs.declared.calls.CallWord.{CallWord}
use Rattle.lines.specs.declared.calls.CallWord.TheVariants as asks
use Rattle.lines.specs.Reading.{last_number, before, dates_after, Beginning, beginning_in, the_beginning, rest_of, following}
use Rattle.lines.specs.Settings.{pairs, dates, circle, queue, setting_word, setting_rest}
use Rattle.lines.specs.Calls.{marks, verdict, call_word, call_rest}
use Rattle.grammar.specs.Grammar.{place}
use Rattle.grammar.specs.Faults.{Inside, Ended, a_setting, a_call}
use Rattle.grammar.proofs.Sound.{no_parse}
use Rattle.grammar.proofs.Fillers.{Filler, zero_here, circle_here, verdict_here, filled, puts_none, puts_first, whole}
use Rattle.grammar.proofs.Regular.{inside_as, ended_rest, Stops, Begins, Regular, then_regular}
use Rattle.grammar.proofs.Heads.{Head, wrong, takes, ends, headed, stops_here, stops_behind, number_regular}
use Rattle.grammar.proofs.Terms.{disjunction_regular}

end_head : (p : Placed) → Head whole the_end p
unfolding the_end
end_head p = by p.piece refl
  where
    by : (q : Piece) → p.piece ≡ q → Head whole the_end p
    by (number ds) is = wrong 14 (λ l. ap (end_in p.column) is)
    by (word w) is = wrong 14 (λ l. ap (end_in p.column) is)
    by (sign s) is = wrong 14 (λ l. ap (end_in p.column) is)
    by (bad n) is = wrong n (λ l. ap (end_in p.column) is)
    by done is = ends tt tt (λ l. ap (end_in p.column) is)

end_regular : Regular whole the_end
unfolding the_end
end_regular =
    headed whole the_end end_head
    (record { value = tt; more = []; reads = λ ms after a p. ap the_end (puts_none p ∙ a.1) })

-- what was read is put into a form
module _ {X Y : Type 0} (read : Reader X) (form : X → Y) where
  abbrev formed : Reader Y
  formed ps = bind (read ps) (λ x. parsed (form x))

  formed_stops : (ps : List Placed) (e : Fault) → Stops whole read ps e → Stops whole formed ps e
  formed_stops ps e a =
      record {
        front = a.front;
        here = a.here;
        rest = a.rest;
        split = a.split;
        column = a.column;
        again = λ more. ap (λ o. bind o (λ x. parsed (form x))) (a.again more);
        value = form a.value;
        more = a.more;
        completes = λ ms after c p. ap (λ o. bind o (λ x. parsed (form x))) (a.completes ms after c p);
      }

  was_fault : (ps : List Placed) (e : Fault) → formed ps ≡ fault e → read ps ≡ fault e
  was_fault ps e is = by (read ps) refl is
    where
      by : (o : Outcome X) → read ps ≡ o → bind o (λ x. parsed (form x)) ≡ fault e → read ps ≡ fault e
      by (fault f) was is = was ∙ (let q : fault f ≡ fault e = cc in q)
      by (parsed x rest) was is = absurd (no_parse e (form x) rest (sym is))

  formed_regular : Regular whole read → Regular whole formed
  formed_regular r =
      let b = r.begins in
      record {
        begins = record { value = form b.value; more = b.more; reads = λ ms after c p. ap (λ o. bind o (λ x. parsed (form x))) (b.reads ms after c p) };
        reading = tt;
        stops = λ ps ended e is. formed_stops ps e (r.stops ps ended e (was_fault ps e is));
      }

last_regular : Regular whole last_number
last_regular = then_regular a_number (λ n r. bind (the_end r) (λ _. parsed n)) number_regular whole (λ n. formed_regular the_end (λ _. n) end_regular)

-- a month waits for its day, or none does
dates_begin : (waiting : Option ℕ) → Begins whole (dates_after waiting)
unfolding dates_after
dates_begin None = record { value = []; more = []; reads = λ ms after a p. ap (dates_after None) (puts_none p ∙ a.1) }
dates_begin (Some m) =
    record {
      value = (m, 0) ∷ [];
      more = zero_here ∷ [];
      reads = λ ms after a p. puts_first p (λ l. dates_after (Some m) l ≡ parsed ((m, 0) ∷ []) []) (λ c l q. ap (λ l. dates_after (Some m) (place (filled zero_here) c ∷ l)) (puts_none q ∙ a.1));
    }

-- with a month that waits for its day, or without
dates_stop : (waiting : Option ℕ) (ps : List Placed) → Ended ps → (e : Fault) → dates_after waiting ps ≡ fault e → Stops whole (dates_after waiting) ps e
unfolding dates_after
dates_stop waiting [] ended e is = elim ended [ ]
dates_stop None (p ∷ ps) ended e is = by p.piece refl is (λ m inside. dates_stop (Some m) ps (ended_rest p ps inside ended) e)
  where
    here : Piece → List Placed → Outcome (List (ℕ × ℕ))
    here q l = number_or p.column q (λ m. dates_after (Some m) l) (parsed [] [])

    by : (q : Piece) → p.piece ≡ q → here q ps ≡ fault e → ((m : ℕ) → Inside p.piece → dates_after (Some m) ps ≡ fault e → Stops whole (dates_after (Some m)) ps e) → Stops whole (dates_after None) (p ∷ ps) e
    by (number ds) was is go =
        stops_behind whole (dates_after None) p ps e (dates_after (Some (value_of ds))) (λ l. ap (λ q. here q l) was) (go (value_of ds) (inside_as p (number ds) was tt) is)
    by (word w) was is go = stops_here whole (dates_after None) (dates_begin None) p ps e 14 (λ l. ap (λ q. here q l) was) (ap (λ q. here q ps) was ∙ is)
    by (sign s) was is go = stops_here whole (dates_after None) (dates_begin None) p ps e 14 (λ l. ap (λ q. here q l) was) (ap (λ q. here q ps) was ∙ is)
    by (bad n) was is go = stops_here whole (dates_after None) (dates_begin None) p ps e n (λ l. ap (λ q. here q l) was) (ap (λ q. here q ps) was ∙ is)
    by done was is go = absurd (no_parse e [] [] (sym is))
dates_stop (Some m) (p ∷ ps) ended e is = by p.piece refl is (λ inside. dates_stop None ps (ended_rest p ps inside ended) e)
  where
    here : Piece → List Placed → Outcome (List (ℕ × ℕ))
    here q l = number_or p.column q (λ d. before ((m, d) ∷ []) (dates_after None l)) (at 14 p.column)

    by : (q : Piece) → p.piece ≡ q → here q ps ≡ fault e → (Inside p.piece → dates_after None ps ≡ fault e → Stops whole (dates_after None) ps e) → Stops whole (dates_after (Some m)) (p ∷ ps) e
    by (number ds) was is go =
        let put : List (ℕ × ℕ) → List (ℕ × ℕ) = λ es. ((m, value_of ds) ∷ []) ++ es in
        stops_behind whole (dates_after (Some m)) p ps e (λ l. bind (dates_after None l) (λ es. parsed (put es))) (λ l. ap (λ q. here q l) was)
        (formed_stops (dates_after None) put ps e (go (inside_as p (number ds) was tt) (was_fault (dates_after None) put ps e is)))
    by (word w) was is go = stops_here whole (dates_after (Some m)) (dates_begin (Some m)) p ps e 14 (λ l. ap (λ q. here q l) was) (ap (λ q. here q ps) was ∙ is)
    by (sign s) was is go = stops_here whole (dates_after (Some m)) (dates_begin (Some m)) p ps e 14 (λ l. ap (λ q. here q l) was) (ap (λ q. here q ps) was ∙ is)
    by (bad n) was is go = stops_here whole (dates_after (Some m)) (dates_begin (Some m)) p ps e n (λ l. ap (λ q. here q l) was) (ap (λ q. here q ps) was ∙ is)
    by done was is go = stops_here whole (dates_after (Some m)) (dates_begin (Some m)) p ps e 14 (λ l. ap (λ q. here q l) was) (ap (λ q. here q ps) was ∙ is)

dates_regular : Regular whole (dates_after None)
dates_regular = record { begins = dates_begin None; reading = tt; stops = dates_stop None }

-- a known word, and what follows it
module _ {W X : Type 0} (known : List ℕ → Option W) (follows : W → Reader X) (regular : (w : W) → Regular whole (follows w)) where
  abbrev line : Reader X
  line ps = following known follows (the_beginning ps)

  line_head : (p : Placed) → Head whole line p
  unfolding the_beginning
  line_head p = by p.piece refl
    where
      go : Outcome Beginning → Outcome X
      go o = following known follows o

      word_head : (w : List ℕ) → p.piece ≡ word w → (o : Option W) → known w ≡ o → Head whole line p
      word_head w is None k = wrong 17 (λ l. ap (λ q. go (beginning_in p.column q l)) is ∙ ap (λ o. rest_of follows p.column o l) k)
      word_head w is (Some v) k =
          takes (inside_as p (word w) is tt) (follows v) (regular v)
          (λ l. ap (λ q. go (beginning_in p.column q l)) is ∙ ap (λ o. rest_of follows p.column o l) k)

      by : (q : Piece) → p.piece ≡ q → Head whole line p
      by (number ds) is = wrong 17 (λ l. ap (λ q. go (beginning_in p.column q l)) is)
      by (word w) is = word_head w is (known w) refl
      by (sign s) is = wrong 17 (λ l. ap (λ q. go (beginning_in p.column q l)) is)
      by (bad n) is = wrong n (λ l. ap (λ q. go (beginning_in p.column q l)) is)
      by done is = wrong 17 (λ l. ap (λ q. go (beginning_in p.column q l)) is)

  -- f is a word that is known
  module _ (f : Filler) (v : W) (begins-line : (c : ℕ) (l : List Placed) → line (place (filled f) c ∷ l) ≡ follows v l) where
    line_regular : Regular whole line
    line_regular =
        let b = (regular v).begins in
        headed whole line line_head
        (record {
          value = b.value;
          more = f ∷ b.more;
          reads = λ ms after a p. puts_first p (λ l. line l ≡ parsed b.value []) (λ c l q. begins-line c l ∙ b.reads l after a q);
        })

setting_rest_regular : (w : SettingWord) → Regular whole (setting_rest w)
setting_rest_regular sets.Pairs = then_regular a_number (λ l r. bind (last_number r) (λ s. parsed (pairs l s))) number_regular whole (λ l. formed_regular last_number (pairs l) last_regular)
setting_rest_regular sets.Dates = formed_regular (dates_after None) dates dates_regular
setting_rest_regular sets.Circle = formed_regular last_number circle last_regular
setting_rest_regular sets.Queue = formed_regular last_number queue last_regular

pub setting_regular : Regular whole a_setting
unfolding setting_word the_beginning
setting_regular = line_regular setting_word setting_rest setting_rest_regular circle_here sets.Circle (λ c l. refl)

call_rest_regular : (w : CallWord) → Regular whole (call_rest w)
call_rest_regular asks.Where = then_regular (disjunction 32) (λ x r. bind (the_end r) (λ _. parsed (marks x))) (disjunction_regular 32) whole (λ x. formed_regular the_end (λ _. marks x) end_regular)
call_rest_regular asks.Verdict = formed_regular the_end (λ _. verdict) end_regular

pub call_regular : Regular whole a_call
unfolding call_word the_beginning
call_regular = line_regular call_word call_rest call_rest_regular verdict_here asks.Verdict (λ c l. refl)
