-- Where the fault of a formula stands.
use Rattle.std.proofs.Common.{List, [], ◌∷◌, ◌++◌, sym, ap, ◌∙◌, append_assoc}
use Rattle.lexer.specs.Tokens.{done, Placed}
use Rattle.formulas.specs.Readers.{disjunction}
use Rattle.grammar.specs.Grammar.{place}
use Rattle.grammar.specs.Faults.{FormulasBreak}
use Rattle.grammar.proofs.Sound.{no_parse, sentences_read}
use Rattle.grammar.proofs.Fillers.{Filler, filled, Puts, none_more, one_more, end_closes}
use Rattle.grammar.proofs.Terms.{disjunction_regular}

-- the fillers at column 0
laid : List Filler → List Placed
laid [] = []
laid (f ∷ fs) = place (filled f) 0 ∷ laid fs

puts_laid : (fs : List Filler) (after : List Placed) → Puts fs (laid fs ++ after) after
unfolding laid
puts_laid [] after = none_more
puts_laid (f ∷ fs) after = one_more f 0 (puts_laid fs after)

pub formulas_break : FormulasBreak
formulas_break n ps e ended is =
    let s = (disjunction_regular n).stops ps ended e is in
    let end = place done 0 ∷ [] in
    record {
      front = s.front;
      here = s.here;
      rest = s.rest;
      split = s.split;
      column = s.column;
      sentence = s.value;
      more = laid s.more;
      completable = (sentences_read n s.value (s.front ++ laid s.more) 0).0
          (ap (disjunction n) (append_assoc s.front (laid s.more) end) ∙ s.completes (laid s.more ++ end) end (end_closes 0) (puts_laid s.more end));
      stuck = λ x more d.
          no_parse e x end
          (sym (s.again (more ++ end)) ∙ sym (ap (disjunction n) (append_assoc s.front (s.here ∷ more) end)) ∙ (sentences_read n x (s.front ++ s.here ∷ more) 0).1 d);
      again = s.again;
    }
