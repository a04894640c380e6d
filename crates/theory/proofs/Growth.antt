-- The formula of a node, built from those of the nodes that it names.
use Rattle.std.proofs.Common.{◌≡◌, ℕ, zero, suc, ◌+◌, ◌<◌, List, [], ◌∷◌, ◌++◌, length, get_or, sym, refl, ap, ◌∙◌, subst, ap₂, arith, length-append, get_or-append-add}
use lib.ListN.{get_or-append}
use Rattle.theory.specs.declared.node.Node.{Node}
use Rattle.theory.specs.declared.node.Shape.{Shape}
use Rattle.theory.specs.declared.node.Shape.TheVariants as node
use Rattle.theory.specs.Formula.{Formula, shape, build, grow, formula, Earlier}

-- an entry stays as the list grows
pub grow_keeps : (fs : List Formula) (ns : List Node) (i : ℕ) → i < length fs → get_or (grow fs ns) i Formula.top ≡ get_or fs i Formula.top
unfolding grow
grow_keeps fs [] i h = refl
grow_keeps fs (n ∷ ns) i h =
    let more = build (λ j. get_or fs j Formula.top) (shape n) ∷ [] in
    grow_keeps (fs ++ more) ns i (omega (arith, length-append fs more)) ∙ get_or-append fs more Formula.top i h

-- what is built goes by the named nodes alone
pub build_same : (f g : ℕ → Formula) (k : ℕ) (s : Shape) → Earlier k s → ((i : ℕ) → i < k → f i ≡ g i) → build f s ≡ build g s
build_same f g k node.Top h e = refl
build_same f g k (node.Fact x) h e = refl
build_same f g k (node.Equals q v) h e = refl
build_same f g k (node.Not i) h e = ap Formula.neg (e i h)
build_same f g k (node.Both i j) h e = ap₂ Formula.both (e i h.0) (e j h.1)
build_same f g k (node.Knows p i) h e = ap (Formula.knows p) (e i h)
build_same f g k (node.Value p q i) h e = ap (Formula.value p q) (e i h)

-- the entry of a node that is still to come
grown : (fs : List Formula) (ns : List Node) (none : Node) (k : ℕ) → k < length ns → Earlier (length fs + k) (shape (get_or ns k none))
    → get_or (grow fs ns) (length fs + k) Formula.top ≡ build (λ i. get_or (grow fs ns) i Formula.top) (shape (get_or ns k none))
unfolding grow
grown fs [] none k h e = absurd (omega arith)
grown fs (n ∷ ns) none zero h e =
    let b = build (λ j. get_or fs j Formula.top) (shape n) in
    let all = fs ++ (b ∷ []) in
    grow_keeps all ns (length fs + 0) (omega (arith, length-append fs (b ∷ [])))
    ∙ get_or-append-add fs (b ∷ []) 0 Formula.top
    ∙ build_same (λ j. get_or fs j Formula.top) (λ i. get_or (grow all ns) i Formula.top) (length fs + 0) (shape n) e
    (λ i l. sym (grow_keeps all ns i (omega (arith, length-append fs (b ∷ []))) ∙ get_or-append fs (b ∷ []) Formula.top i (omega arith)))
grown fs (n ∷ ns) none (suc k) h e =
    let b = build (λ j. get_or fs j Formula.top) (shape n) in
    let all = fs ++ (b ∷ []) in
    let place : length fs + suc k ≡ length all + k = omega (arith, length-append fs (b ∷ [])) in
    ap (λ (x : ℕ). get_or (grow all ns) x Formula.top) place
    ∙ grown all ns none k (omega arith) (rw place at e)

-- the formula of a node that names only earlier nodes
pub formula_built : (ns : List Node) (none : Node) (i : ℕ) → i < length ns → Earlier i (shape (get_or ns i none))
    → formula ns i ≡ build (formula ns) (shape (get_or ns i none))
formula_built ns none i h e =
    let place : i ≡ 0 + i = omega arith in
    ap (formula ns) place ∙ grown [] ns none i h (subst (λ (x : ℕ). Earlier x (shape (get_or ns i none))) place e)
