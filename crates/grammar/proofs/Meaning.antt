-- The nodes of a sentence stand for what it means.
use Rattle.std.proofs.Common.{◌≡◌, ℕ, ◌+◌, ◌-◌, ◌<◌, true, false, ltb, List, [], ◌∷◌, ◌++◌, length, get_or, take, sym, refl, ap, ◌∙◌, subst, ap₂, ⊎_elim, append_assoc, arith, length-append}
use Rattle.std.proofs.lemmas.List.{get_or_push, get_or_append_left, take_at}
use Rattle.std.proofs.lemmas.Bool.{cases_Bool, cond-true, cond-false, cases_lt}
use Rattle.theory.specs.declared.node.Node.{Node}
use Rattle.theory.specs.Formula.{Formula, shape, build, grow, formulas, formula, Earlier}
use Rattle.theory.proofs.Growth.{grow_keeps}
use Rattle.formulas.specs.Sentences.{Sentence, truth, fact, equals, neg, both, either, knows, values, or, meant}
use Rattle.theory.specs.declared.node.Shape.TheVariants as node
use Rattle.theory.specs.Shapes.{node_of}
use Rattle.formulas.specs.Stores.{Store, put, write, last, or_nodes}
use Rattle.grammar.specs.Laws.{NamesEarlier, SentencesMean}

grow_append : (fs : List Formula) (ns ms : List Node) → grow fs (ns ++ ms) ≡ grow (grow fs ns) ms
unfolding grow
grow_append fs [] ms = refl
grow_append fs (n ∷ ns) ms = grow_append (fs ++ build (λ i. get_or fs i Formula.top) (shape n) ∷ []) ns ms

grow_length : (fs : List Formula) (ns : List Node) → length (grow fs ns) ≡ length fs + length ns
unfolding grow
grow_length fs [] = omega arith
grow_length fs (n ∷ ns) =
    let more = build (λ i. get_or fs i Formula.top) (shape n) ∷ [] in
    omega (arith, grow_length (fs ++ more) ns, length-append fs more)

-- a node's formula stays as the list grows
formula_stays : (ns ms : List Node) (i : ℕ) → i < length ns → formula (ns ++ ms) i ≡ formula ns i
formula_stays ns ms i h = ap (λ fs. get_or fs i Formula.top) (grow_append [] ns ms) ∙ grow_keeps (formulas ns) ms i (omega (arith, grow_length [] ns))

-- the formula of a new node
formula_new : (ns : List Node) (n : Node) → formula (ns ++ n ∷ []) (length ns) ≡ build (formula ns) (shape n)
unfolding grow
formula_new ns n =
    let new = build (λ i. get_or (grow [] ns) i Formula.top) (shape n) in
    ap (λ fs. get_or fs (length ns) Formula.top) (grow_append [] ns (n ∷ [])) ∙ get_or_push (grow [] ns) new Formula.top (length ns) (omega (arith, grow_length [] ns))

-- a node that found a place
put_open : (s : Store) (n : Node) → (put s n).full ≡ false → (s.full ≡ false) × ((put s n).nodes ≡ s.nodes ++ n ∷ [])
unfolding put
put_open s n e =
    let bigger : Store = record { nodes = s.nodes ++ n ∷ []; full = s.full } in
    let none : Store = record { nodes = s.nodes; full = true } in
    ⊎_elim
    (λ b. let is = cond-true (ltb (length s.nodes) 4096) bigger none b in (sym (ap (λ (t : Store). t.full) is) ∙ e, ap (λ (t : Store). t.nodes) is))
    (λ b. let is = cond-false (ltb (length s.nodes) 4096) bigger none b in
    let z : true ≡ false = sym (ap (λ (t : Store). t.full) is) ∙ e in let y : ◌≡◌ {A = ℕ} 0 1 = cc in absurd (omega arith))
    (cases_Bool (ltb (length s.nodes) 4096))

-- node i is there, and stands for φ
record Stands (s : Store) (i : ℕ) (φ : Formula) : Type 0 where
  there : i < length s.nodes
  says : formula s.nodes i ≡ φ

-- t has the nodes of s and more, of which the last stands for φ
record Adds (s t : Store) (φ : Formula) : Type 0 where
  more : List Node
  is : t.nodes ≡ s.nodes ++ more
  final : Stands t (last t) φ
  earlier : NamesEarlier s t

stays : {s t : Store} {φ ψ : Formula} {i : ℕ} → Adds s t φ → Stands s i ψ → Stands t i ψ
stays {s} {t} {φ} {ψ} {i} a h =
    let there = h.there in
    record {
      there = omega (arith, ap length a.is, length-append s.nodes a.more);
      says = ap (λ ns. formula ns i) a.is ∙ formula_stays s.nodes a.more i h.there ∙ h.says;
    }

adds_then : {s t u : Store} {φ ψ : Formula} → Adds s t φ → Adds t u ψ → Adds s u ψ
adds_then {s} {t} {u} a b =
    record {
      more = a.more ++ b.more;
      is = b.is ∙ ap (λ ns. ns ++ b.more) a.is ∙ append_assoc s.nodes a.more b.more;
      final = b.final;
      earlier = λ none i from below. ⊎_elim
          (λ l. let P : Node → Type 0 = λ n. Earlier i (shape n) in
          subst P (sym (ap (λ ns. get_or ns i none) b.is ∙ get_or_append_left t.nodes b.more none i l)) (a.earlier none i from l))
          (λ l. b.earlier none i l below) (cases_lt i (length t.nodes));
    }

puts : (s : Store) (n : Node) (φ : Formula) → (put s n).full ≡ false → Earlier (length s.nodes) (shape n) → build (formula s.nodes) (shape n) ≡ φ → Adds s (put s n) φ
puts s n φ room before e =
    let is = (put_open s n room).1 in
    let more = ap length is in
    let longer = length-append s.nodes (n ∷ []) in
    let final : last (put s n) ≡ length s.nodes = omega arith in
    record {
      more = n ∷ [];
      is = is;
      final = record { there = omega arith; says = (λ j. formula (is j) (final j)) ∙ formula_new s.nodes n ∙ e };
      earlier = λ none i from below.
          let same : length s.nodes ≡ i = omega arith in
          let P : ℕ → Type 0 = λ k. Earlier k (shape (get_or (put s n).nodes i none)) in
          let Q : Node → Type 0 = λ m. Earlier (length s.nodes) (shape m) in
          subst P same (subst Q (sym (ap (λ ns. get_or ns i none) is ∙ get_or_push s.nodes n none i same)) before);
    }

-- the nodes of `or` behind a and the last node, b
or_adds : (a : ℕ) (s : Store) (φ ψ : Formula) → (or_nodes a s).full ≡ false → Stands s a φ → Stands s (last s) ψ → Adds s (or_nodes a s) (or φ ψ)
or_adds a s φ ψ room x y =
    let s₁ = put s (node_of (node.Not a)) in
    let s₂ = put s₁ (node_of (node.Not (last s))) in
    let s₃ = put s₂ (node_of (node.Both (last s₂ - 1) (last s₂))) in
    let room₃ = (put_open s₃ (node_of (node.Not (last s₃))) room).0 in
    let room₂ = (put_open s₂ (node_of (node.Both (last s₂ - 1) (last s₂))) room₃).0 in
    let room₁ = (put_open s₁ (node_of (node.Not (last s))) room₂).0 in
    let a₁ = puts s (node_of (node.Not a)) (Formula.neg φ) room₁ x.there (ap Formula.neg x.says) in
    let y₁ = stays a₁ y in
    let a₂ = puts s₁ (node_of (node.Not (last s))) (Formula.neg ψ) room₂ y₁.there (ap Formula.neg y₁.says) in
    let x₂ = stays a₂ a₁.final in
    let before : last s₁ ≡ last s₂ - 1 = omega (arith, a₁.final.there, ap length (put_open s₁ (node_of (node.Not (last s))) room₂).1, length-append s₁.nodes (node_of (node.Not (last s)) ∷ [])) in
    let P : ℕ → Type 0 = λ i. Stands s₂ i (Formula.neg φ) in
    let x₂' = subst P before x₂ in
    let a₃ = puts s₂ (node_of (node.Both (last s₂ - 1) (last s₂))) (Formula.both (Formula.neg φ) (Formula.neg ψ)) room₃ (x₂'.there, a₂.final.there) (ap₂ Formula.both x₂'.says a₂.final.says) in
    let a₄ = puts s₃ (node_of (node.Not (last s₃))) (or φ ψ) room a₃.final.there (ap Formula.neg a₃.final.says) in
    adds_then a₁ (adds_then a₂ (adds_then a₃ a₄))

or_open : (a : ℕ) (s : Store) → (or_nodes a s).full ≡ false → s.full ≡ false
or_open a s room =
    let s₁ = put s (node_of (node.Not a)) in
    let s₂ = put s₁ (node_of (node.Not (last s))) in
    let s₃ = put s₂ (node_of (node.Both (last s₂ - 1) (last s₂))) in
    (put_open s (node_of (node.Not a)) (put_open s₁ (node_of (node.Not (last s))) (put_open s₂ (node_of (node.Both (last s₂ - 1) (last s₂))) (put_open s₃ (node_of (node.Not (last s₃))) room).0).0).0).0

write_open : (x : Sentence) (s : Store) → (write x s).full ≡ false → s.full ≡ false
write_open truth s e = (put_open s (node_of node.Top) e).0
write_open (fact n) s e = (put_open s (node_of (node.Fact n)) e).0
write_open (equals q v) s e = (put_open s (node_of (node.Equals q v)) e).0
write_open (neg x) s e = write_open x s (put_open (write x s) (node_of (node.Not (last (write x s)))) e).0
write_open (both x y) s e = write_open x s (write_open y (write x s) (put_open (write y (write x s)) (node_of (node.Both (last (write x s)) (last (write y (write x s))))) e).0)
write_open (either x y) s e = write_open x s (write_open y (write x s) (or_open (last (write x s)) (write y (write x s)) e))
write_open (knows p x) s e = write_open x s (put_open (write x s) (node_of (node.Knows p (last (write x s)))) e).0
write_open (values p q x) s e = write_open x s (put_open (write x s) (node_of (node.Value p q (last (write x s)))) e).0

-- the nodes of a sentence
adds : (x : Sentence) (s : Store) → (write x s).full ≡ false → Adds s (write x s) (meant x)
adds truth s e = puts s (node_of node.Top) Formula.top e tt refl
adds (fact n) s e = puts s (node_of (node.Fact n)) (Formula.fact n) e tt refl
adds (equals q v) s e = puts s (node_of (node.Equals q v)) (Formula.equals q v) e tt refl
adds (neg x) s e =
    let t = write x s in let n = node_of (node.Not (last t)) in
    let a = adds x s (put_open t n e).0 in
    adds_then a (puts t n (Formula.neg (meant x)) e a.final.there (ap Formula.neg a.final.says))
adds (both x y) s e =
    let t = write x s in let u = write y t in let n = node_of (node.Both (last t) (last u)) in
    let room = (put_open u n e).0 in
    let a = adds x s (write_open y t room) in
    let b = adds y t room in
    let c = stays b a.final in
    adds_then a (adds_then b (puts u n (Formula.both (meant x) (meant y)) e (c.there, b.final.there) (ap₂ Formula.both c.says b.final.says)))
adds (either x y) s e =
    let t = write x s in let u = write y t in
    let room = or_open (last t) u e in
    let a = adds x s (write_open y t room) in
    let b = adds y t room in
    adds_then a (adds_then b (or_adds (last t) u (meant x) (meant y) e (stays b a.final) b.final))
adds (knows p x) s e =
    let t = write x s in let n = node_of (node.Knows p (last t)) in
    let a = adds x s (put_open t n e).0 in
    adds_then a (puts t n (Formula.knows p (meant x)) e a.final.there (ap (Formula.knows p) a.final.says))
adds (values p q x) s e =
    let t = write x s in let n = node_of (node.Value p q (last t)) in
    let a = adds x s (put_open t n e).0 in
    adds_then a (puts t n (Formula.value p q (meant x)) e a.final.there (ap (Formula.value p q) a.final.says))

pub sentences_mean : SentencesMean
sentences_mean x s e =
    let a = adds x s e in
    record {
      says = a.final.says;
      keeps = record { front = ap (λ ns. take (length s.nodes) ns) a.is ∙ take_at s.nodes a.more (length s.nodes) refl };
      earlier = a.earlier;
    }
