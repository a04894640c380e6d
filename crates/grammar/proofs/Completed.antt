-- Where the fault of a line stands, in its bytes.
use Rattle.std.proofs.Common.{◌≡◌, ℕ, zero, suc, ◌+◌, ◌-◌, Bool, true, false, cond, leb, ◌⊎◌, List, [], ◌∷◌, ◌++◌, length, take, Some, None, Option, sym, refl, ap, ◌∙◌, subst, inl, inr, ⊎_elim, append_assoc, arith}
use Rattle.std.proofs.lemmas.Bool.{cond_both, cond-true, le-leb}
use Rattle.std.specs.List.{prefix_len}
use Rattle.theory.specs.declared.node.Node.{Node}
use Rattle.lexer.specs.declared.tokens.Class.TheVariants.{Space, Digit, Letter}
use Rattle.lexer.specs.declared.tokens.Sign.{Sign}
use Rattle.lexer.specs.Bytes.{belongs, sign_of}
use Rattle.lexer.specs.Faults.{Fault}
use Rattle.lexer.specs.Tiles.{bytes_of}
use Rattle.lexer.specs.Tokens.{number, word, bad, done, Placed, numeral, mark as mark_of, piece_at, more, scan, pieces_from}
use Rattle.lexer.proofs.Scans.{pieces_at}
use Rattle.formulas.specs.Reading.{Outcome, fault, parsed, Reader, at}
use Rattle.lines.specs.Reading.{the_beginning, following}
use Rattle.lines.specs.Settings.{setting_word, setting_rest}
use Rattle.lines.specs.Calls.{Request, call_word, call_rest, holding, writing, unless_full}
use Rattle.lines.specs.Firsts.{refused, accepted, answer, first_word}
use Rattle.grammar.specs.Grammar.{place}
use Rattle.grammar.specs.Faults.{Inside, Ended, end_alone, one_before, LinesEnd, a_setting, a_call, LineBreaks, LinesBreak, LinesByPieces, RefusalsBreak}
use Rattle.grammar.proofs.Fillers.{Filler, zero_here, true_here, equals_here, dot_here, close_here, circle_here, verdict_here, filled, Puts, none_more, one_more, whole}
use Rattle.grammar.proofs.Regular.{Regular}
use Rattle.grammar.proofs.Cuts.{cuts}
use Rattle.grammar.proofs.Lines.{setting_regular, call_regular}

-- a filler is read before a space, and what follows goes on behind it
record Fills (f : Filler) (c : ℕ) (l : List ℕ) : Type 0 where
  next : ℕ
  is : scan 0 c (bytes_of (filled f) ++ 32 ∷ l) ≡ place (filled f) c ∷ scan 0 next l

fills : (f : Filler) (c : ℕ) (l : List ℕ) → Fills f c l
fills zero_here c l = record { next = c + 1 + 1; is = refl }
fills true_here c l = record { next = c + 1 + 1 + 1 + 1 + 1; is = refl }
fills circle_here c l = record { next = c + 1 + 1 + 1 + 1 + 1 + 1 + 1; is = refl }
fills verdict_here c l = record { next = c + 1 + 1 + 1 + 1 + 1 + 1 + 1 + 1; is = refl }
fills equals_here c l = record { next = c + 1 + 1; is = refl }
fills dot_here c l = record { next = c + 1 + 1; is = refl }
fills close_here c l = record { next = c + 1 + 1; is = refl }

-- fillers, each with a space behind it
abbrev written : List Filler → List ℕ
written [] = []
written (f ∷ fs) = bytes_of (filled f) ++ 32 ∷ written fs

-- they are read at some columns, with the line's end behind them
record Written (fs : List Filler) (c : ℕ) : Type 0 where
  end : ℕ
  puts : Puts fs (scan 0 c (written fs)) (place done end ∷ [])

read_back : (fs : List Filler) (c : ℕ) → Written fs c
read_back [] c = record { end = c; puts = none_more }
read_back (f ∷ fs) c =
    let one = fills f c (written fs) in
    let r = read_back fs one.next in
    let P : List Placed → Type 0 = λ l. Puts (f ∷ fs) l (place done r.end ∷ []) in
    record { end = r.end; puts = subst P (sym one.is) (one_more f c r.puts) }

inside_mark : (o : Option Sign) → Inside (mark_of o)
inside_mark (Some s) = tt
inside_mark None = tt

inside_piece : (b : ℕ) (bs : List ℕ) → Inside (piece_at b bs)
inside_piece b bs = by (belongs Digit b) (belongs Letter b)
  where
    small : (t : Bool) (ds : List ℕ) → Inside (cond t (number ds) (bad 13))
    small true ds = tt
    small false ds = tt

    by : (d l : Bool) → Inside (cond d (numeral (b ∷ take (prefix_len (belongs Digit) bs) bs)) (cond l (word (b ∷ take (prefix_len (belongs Letter) bs) bs)) (mark_of (sign_of b))))
    by true l = small _ (b ∷ take (prefix_len (belongs Digit) bs) bs)
    by false true = tt
    by false false = inside_mark (sign_of b)

scan_ended : (k c : ℕ) (bs : List ℕ) → Ended (scan k c bs)
scan_ended k c [] = end_alone c
scan_ended zero c (b ∷ bs) =
    cond_both (belongs Space b) (scan 0 (c + 1) bs) (place (piece_at b bs) c ∷ scan (more b bs) (c + 1) bs) (λ l. Ended l)
    (λ _. scan_ended 0 (c + 1) bs) (λ _. one_before (place (piece_at b bs) c) (inside_piece b bs) (scan_ended (more b bs) (c + 1) bs))
scan_ended (suc k) c (b ∷ bs) = scan_ended k (c + 1) bs

pub lines_end : LinesEnd
lines_end line = let P : List Placed → Type 0 = λ l. Ended l in subst P (sym (pieces_at line 0 (omega arith))) (scan_ended 0 1 line)

module _ {X : Type 0} (read : Reader X) (r : Regular whole read) (line : List ℕ) (e : Fault) where
  all : (l : List ℕ) → pieces_from l 0 ≡ scan 0 1 l
  all l = pieces_at l 0 (omega arith)

  -- the line cut at a piece, with a space and more bytes
  cut_at : (front : List Placed) (here : Placed) (rest : List Placed) → scan 0 1 line ≡ front ++ here ∷ rest → (c : ℕ) → here.column ≡ c → (l : List ℕ) → pieces_from (take (c - 1) line ++ 32 ∷ l) 0 ≡ front ++ scan 0 (c + 1) l
  cut_at front here rest split c column l =
      let k = cuts 0 1 line front here rest (omega arith) split in
      let there = k.column in
      let before-it : c - 1 ≡ k.place_of = omega arith in
      ap (λ n. pieces_from (take n line ++ 32 ∷ l) 0) before-it
      ∙ all (take k.place_of line ++ 32 ∷ l) ∙ k.cut l
      ∙ ap (λ n. front ++ scan 0 n l) (let q : 1 + k.place_of + 1 ≡ c + 1 = omega arith in q)

  line_breaks : read (pieces_from line 0) ≡ fault e → LineBreaks read line e
  line_breaks is =
      let s = r.stops (pieces_from line 0) (lines_end line) e is in
      let split = sym (all line) ∙ s.split in
      let w = read_back s.more (e.column + 1) in
      record {
        front = s.front;
        here = s.here;
        rest = s.rest;
        split = s.split;
        column = s.column;
        value = s.value;
        more = written s.more;
        completable =
            ap read (cut_at s.front s.here s.rest split e.column s.column (written s.more))
            ∙ s.completes (scan 0 (e.column + 1) (written s.more)) (place done w.end ∷ []) (w.end, refl) w.puts;
        stuck = λ other after begins. ap read begins ∙ s.again after;
        stays = λ next later bytes there.
            ap read
            (cut_at (s.front ++ s.here ∷ []) next later (split ∙ ap (λ l. s.front ++ s.here ∷ l) there ∙ sym (append_assoc s.front (s.here ∷ []) (next ∷ later))) next.column refl bytes
            ∙ append_assoc s.front (s.here ∷ []) (scan 0 (next.column + 1) bytes))
            ∙ s.again (scan 0 (next.column + 1) bytes);
      }

pub lines_break : LinesBreak
lines_break = (line_breaks a_setting setting_regular, line_breaks a_call call_regular)

pub lines_by_pieces : LinesByPieces
unfolding first_word
lines_by_pieces line h =
    let short = cond-true (leb (length line) 200) (the_beginning (pieces_from line 0)) (at 11 0) (le-leb (length line) 200 h) in
    (ap (following setting_word setting_rest) short, ap (following call_word call_rest) short)

-- what was refused has a fault
refused_for : {X : Type 0} (o : Outcome X) (e : Fault) → answer o ≡ refused e → o ≡ fault e
refused_for (fault f) e is = let q : f ≡ e = cc in ap fault q
refused_for (parsed x ps) e is = absurd (let z : ◌≡◌ {A = ℕ} 0 1 = cc in omega arith)

-- or its nodes found no place
call_refused : (ns : List Node) (o : Outcome Request) (e : Fault) → unless_full ns o ≡ refused e → (e.number ≡ 16) ⊎ (o ≡ fault e)
call_refused ns (fault f) e is = inr (let q : f ≡ e = cc in ap fault q)
call_refused ns (parsed x ps) e is = by (writing x (holding ns)).full is
  where
    by : (b : Bool) → cond b (refused (record { number = 16; column = 0 })) (accepted x) ≡ refused e → (e.number ≡ 16) ⊎ (parsed x ps ≡ fault e)
    by true is = let q : e ≡ record { number = 16; column = 0 } = cc in inl (ap (λ (f : Fault). f.number) q)
    by false is = absurd (let z : ◌≡◌ {A = ℕ} 0 1 = cc in omega arith)

pub refusals_break : RefusalsBreak
refusals_break = (
  (λ line e short is. lines_break.0 line e (refused_for (a_setting (pieces_from line 0)) e (ap answer (sym (lines_by_pieces line short).0) ∙ is))),
  λ line ns e short is. ⊎_elim inl (λ f. inr (lines_break.1 line e f)) (call_refused ns (a_call (pieces_from line 0)) e (ap (unless_full ns) (sym (lines_by_pieces line short).1) ∙ is)),
)
