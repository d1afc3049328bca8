-- How many elements of the schema's text the patterns of content are, and their groups, choices and repetitions.
use Rattle.std.proofs.Common.{◌≡◌, ◌∙◌, ◌<◌, ◌≤◌, ℕ, zero, suc, ◌+◌, ◌-◌, ◌*◌, false, List, [], ◌∷◌, ◌++◌, Some, None, Option, length, get_or, map, take, refl, sym, subst, ap, arith}
use Rattle.std.proofs.Math.Nat.{mul-le-mul_right}
use Rattle.std.proofs.lemmas.List.{length-map}
use Rattle.std.proofs.lemmas.List.Folds.{sum_by-replicate}
use Rattle.std.proofs.lemmas.List.Sums.{sum_by-append, sum_by-cons, sum_by_more_le}
use Rattle.std.specs.Prelude.{replicate, sum_by}
use Rattle.odd_tree.specs.Markup.{Markup, declaring, element, line}
use Rattle.rng_emit.proofs.Shapes.{choice_is, empty_is, group_is, not_allowed_is, one_or_more_is, optional_is, ref_is, text_is, zero_or_more_is}
use Rattle.rng_emit.specs.Grammar.{all_of, pattern_markup}
use Rattle.rng_emit.specs.Nodes.{elements_among, elements_in}
use Rattle.rng_grammar.specs.declared.grammar.Expr.{Expr}
use Rattle.rng_grammar.specs.declared.grammar.Expr.TheVariants as expr
use Rattle.rng_types.specs.declared.bounds.Bounds.{Bounds}
use Rattle.compile_defines.specs.Budget.{joined_elements, joint_elements, pattern_elements}
use Rattle.compile_defines.specs.Contents.{define_name, reference, references_pattern}
use Rattle.compile_defines.specs.Parts.{is_never, never_within}
use Rattle.compile_defines.specs.Repeating.{choice_pattern, further, group_pattern, repeated, repeated_within}

-- a sum over a list of images
pub sum_by-map : {A B : Type 0} (f : B → ℕ) (g : A → B) (xs : List A) → sum_by f (map g xs) ≡ sum_by (λ x. f (g x)) xs
sum_by-map f g [] = refl
sum_by-map f g (x ∷ xs) = sum_by-cons f (g x) (map g xs) ∙ ap (λ n. f (g x) + n) (sum_by-map f g xs) ∙ sym (sum_by-cons (λ y. f (g y)) x xs)

-- the images of the items before one, and of that one, are within those of all
pub mapped_within : {A B : Type 0} (f : B → ℕ) (g : A → B) (xs items : List A) (i : ℕ) (x : A) → items ≡ xs → i < length items → x ≡ get_or items i x
    → sum_by f (map g (take i xs)) + f (g x) ≤ sum_by f (map g xs)
mapped_within f g xs items i x same within is =
    let inside : i < length xs = subst (λ ys. i < length ys) same within in
    let there = ap (λ y. f (g y)) (is ∙ ap (λ ys. get_or ys i x) same) in
    let some = sum_by-map f g (take i xs) in
    let all = sum_by-map f g xs in
    let next = sum_by_more_le (λ y. f (g y)) xs i x inside in
    omega arith

-- items that count as one each count as many as they are
pub one_each : {A : Type 0} (f : A → ℕ) → ((x : A) → f x ≡ 1) → (xs : List A) → sum_by f xs ≡ length xs
one_each f one [] = refl
one_each f one (x ∷ xs) =
    let first = one x in
    let rest = one_each f one xs in
    let sum = sum_by-cons f x xs in
    omega arith

-- an element counts
pub some_elements : (m : Markup) → 0 < elements_in m
some_elements (element tag attrs inside) = omega arith
some_elements (line tag attrs text) = omega arith
some_elements (declaring tag prefixes attrs) = omega arith

-- the elements of a list are those of its items
pub among_sum : (ms : List Markup) → elements_among (all_of ms) ≡ sum_by elements_in ms
among_sum [] = refl
among_sum (m ∷ ms) = ap (λ n. elements_in m + n) (among_sum ms) ∙ sym (sum_by-cons elements_in m ms)

-- the elements of the patterns of a list
patterns_sum : (ps : List Expr) → elements_among (all_of (map pattern_markup ps)) ≡ sum_by pattern_elements ps
patterns_sum ps = among_sum (map pattern_markup ps) ∙ sum_by-map elements_in pattern_markup ps

-- a pattern has an element for itself, and those of its parts

pub empty_elements : pattern_elements expr.Empty ≡ 1
empty_elements = ap elements_in empty_is

pub not_allowed_elements : pattern_elements expr.NotAllowed ≡ 1
not_allowed_elements = ap elements_in not_allowed_is

pub text_elements : pattern_elements expr.Text ≡ 1
text_elements = ap elements_in text_is

pub ref_elements : (name : List ℕ) → pattern_elements (expr.Ref name) ≡ 1
ref_elements name = ap elements_in (ref_is name)

pub optional_elements : (p : Expr) → pattern_elements (expr.Optional p) ≡ pattern_elements p + 1
optional_elements p = ap elements_in (optional_is p) ∙ omega arith

pub zero_or_more_elements : (p : Expr) → pattern_elements (expr.ZeroOrMore p) ≡ pattern_elements p + 1
zero_or_more_elements p = ap elements_in (zero_or_more_is p) ∙ omega arith

pub one_or_more_elements : (p : Expr) → pattern_elements (expr.OneOrMore p) ≡ pattern_elements p + 1
one_or_more_elements p = ap elements_in (one_or_more_is p) ∙ omega arith

pub choice_of_all : (ps : List Expr) → pattern_elements (expr.Choice ps) ≡ sum_by pattern_elements ps + 1
choice_of_all ps = ap elements_in (choice_is ps) ∙ ap (λ n. n + 1) (patterns_sum ps)

-- a group and a choice of any number of patterns have one for themselves where these are not one

pub group_elements : (ps : List Expr) → pattern_elements (group_pattern ps) ≡ joined_elements ps
group_elements [] = empty_elements
group_elements (p ∷ []) = let all = sum_by-cons pattern_elements p [] in omega arith
group_elements (p ∷ q ∷ ps) = ap elements_in (group_is (p ∷ q ∷ ps)) ∙ ap (λ n. n + 1) (patterns_sum (p ∷ q ∷ ps))

pub choice_elements : (ps : List Expr) → pattern_elements (choice_pattern ps) ≡ joined_elements ps
choice_elements [] = not_allowed_elements
choice_elements (p ∷ []) = let all = sum_by-cons pattern_elements p [] in omega arith
choice_elements (p ∷ q ∷ ps) = choice_of_all (p ∷ q ∷ ps)

-- so a choice of references has one for each, and may be one more
pub references_elements : (idents : List (List ℕ)) → pattern_elements (references_pattern idents) ≡ length idents + joint_elements (length idents)
references_elements idents =
    let each = sum_by-map pattern_elements reference idents ∙ one_each (λ ident. pattern_elements (reference ident)) (λ ident. ref_elements (define_name ident)) idents in
    choice_elements (map reference idents) ∙ (λ i. each i + joint_elements (length-map idents reference i))

-- those of a group of two lists
pub halves_elements : (ps qs : List Expr) → pattern_elements (group_pattern (ps ++ qs)) ≡ sum_by pattern_elements ps + sum_by pattern_elements qs + joint_elements (length (ps ++ qs))
halves_elements ps qs = let whole = group_elements (ps ++ qs) in let sum = sum_by-append pattern_elements ps qs in omega arith

-- a part of which there is a copy is within the group
in_group : (p : Expr) (before after : List Expr) → pattern_elements p ≤ pattern_elements (group_pattern (before ++ p ∷ after))
in_group p before after =
    let whole = group_elements (before ++ p ∷ after) in
    let sum = sum_by-append pattern_elements before (p ∷ after) in
    let first = sum_by-cons pattern_elements p after in
    omega arith

-- as it is within its repetition, where it stands at all
pub part_within : (p : Expr) (b : Bounds) → is_never b ≡ false → pattern_elements p ≤ pattern_elements (repeated p b)
part_within p b some = by b.min b.max some
  where
    by : (min : ℕ) (max : Option ℕ) → never_within min max ≡ false → pattern_elements p ≤ pattern_elements (repeated_within p min max)
    by zero None some = let more = zero_or_more_elements p in omega arith
    by zero (Some zero) some = cc
    by zero (Some (suc max)) some =
        let more = optional_elements p in
        let first = in_group (expr.Optional p) [] (replicate max (expr.Optional p)) in
        let all : suc max - 0 ≡ suc max = omega arith in
        let same = ap (λ n. pattern_elements (group_pattern (replicate n (expr.Optional p)))) all in
        omega arith
    by (suc zero) None some = let more = one_or_more_elements p in omega arith
    by (suc zero) (Some max) some = in_group p [] (further p 1 (Some max))
    by (suc (suc min)) max some = in_group p [] (replicate (suc min) p ++ further p (suc (suc min)) max)

-- the copies of a pattern, one more of them, and the next within them all

copies_elements : (n : ℕ) (p : Expr) → sum_by pattern_elements (replicate n p) ≡ n * pattern_elements p
copies_elements n p = sum_by-replicate pattern_elements n p

pub copies_more : (n : ℕ) (p : Expr) → sum_by pattern_elements (replicate (n + 1) p) ≡ sum_by pattern_elements (replicate n p) + pattern_elements p
copies_more n p = let some = copies_elements n p in let all = copies_elements (n + 1) p in grind arith

pub copies_within : (n count : ℕ) (p : Expr) → n < count → sum_by pattern_elements (replicate n p) + pattern_elements p ≤ sum_by pattern_elements (replicate count p)
copies_within n count p lt =
    let next = copies_more n p in
    let some = copies_elements (n + 1) p in
    let all = copies_elements count p in
    let less : (n + 1) * pattern_elements p ≤ count * pattern_elements p = mul-le-mul_right (pattern_elements p) (omega arith) in
    omega arith
