-- How many elements of the schema's text a name class is, and an element of its names.
use Rattle.std.proofs.Common.{◌≡◌, ◌∙◌, ◌<◌, ◌≤◌, ℕ, ◌+◌, zero, suc, List, [], ◌∷◌, ◌++◌, length, map, codes, refl, ap, arith}
use Rattle.std.proofs.lemmas.List.Sums.{sum_by-append, sum_by-cons}
use Rattle.std.specs.Prelude.{sum_by}
use Rattle.odd_content.specs.declared.content.Condition.{Condition}
use Rattle.odd_text.specs.declared.name.Name.{Name}
use Rattle.odd_tree.specs.Markup.{Markup, Pair, element}
use Rattle.rng_emit.specs.Grammar.{all_of, any_attributes, class_markup, except_markup, name_markup, part_markup, pattern_markup, space_markup}
use Rattle.rng_emit.specs.Nodes.{elements_in}
use Rattle.rng_grammar.specs.declared.grammar.AttrPart.TheVariants as attributes
use Rattle.rng_grammar.specs.declared.grammar.Body.TheVariants as body
use Rattle.rng_grammar.specs.declared.grammar.Expr.TheVariants as expr
use Rattle.rng_grammar.specs.declared.grammar.NameClass.{NameClass}
use Rattle.rng_grammar.specs.declared.grammar.NameClass.TheVariants as class
use Rattle.rng_grammar.specs.declared.grammar.NsPart.{NsPart}
use Rattle.compile_defines.proofs.Elements.{among_sum, choice_of_all, one_each, ref_elements, some_elements, sum_by-map, text_elements, zero_or_more_elements}
use Rattle.compile_defines.specs.Budget.{joint_elements, pattern_elements}
use Rattle.compile_defines.specs.Compiled.{body_requiring, body_within, condition_body, content_throughout, space_part, spaces_left}
use Rattle.compile_defines.specs.Elements.{body_elements, class_elements, excepting_elements, part_elements, throughout_elements}

excepting_some : (n : ℕ) → 0 < n → excepting_elements n ≡ n + 2
excepting_some zero some = absurd (omega arith)
excepting_some (suc n) some = refl

-- an element that leaves out so many
excepting : (tag : List ℕ) (attrs : List Pair) (ms : List Markup) (n : ℕ) → sum_by elements_in ms ≡ n → elements_in (element tag attrs (all_of (except_markup ms))) ≡ excepting_elements n
excepting tag attrs [] n is = ap excepting_elements is
excepting tag attrs (m ∷ ms) n is =
    let among = among_sum ms in
    let sum = sum_by-cons elements_in m ms in
    let first = some_elements m in
    let some = excepting_some n (omega arith) in
    omega arith

-- lines are as many elements as they are
spaces_elements : (spaces : List (List ℕ)) → sum_by elements_in (map space_markup spaces) ≡ length spaces
spaces_elements spaces = sum_by-map elements_in space_markup spaces ∙ one_each (λ space. elements_in (space_markup space)) (λ space. refl) spaces

names_elements : (names : List Name) → sum_by elements_in (map name_markup names) ≡ length names
names_elements names = sum_by-map elements_in name_markup names ∙ one_each (λ name. elements_in (name_markup name)) (λ name. refl) names

-- a namespace of a name class
pub part_is : (part : NsPart) → part_elements part ≡ excepting_elements (length part.but)
part_is part = excepting (codes "nsName") ((codes "ns", part.ns) ∷ []) (map name_markup part.but) (length part.but) (names_elements part.but)

-- a name class of all names but some
any_but_is : (spaces : List (List ℕ)) (names : List Name) → class_elements (class.AnyBut spaces names) ≡ excepting_elements (length spaces + length names)
any_but_is spaces names =
    let ms = map space_markup spaces ++ map name_markup names in
    let sum = sum_by-append elements_in (map space_markup spaces) (map name_markup names) ∙ (λ i. spaces_elements spaces i + names_elements names i) in
    let whole = excepting (codes "anyName") [] ms (length spaces + length names) sum in
    omega arith

-- a name class of some namespaces
within_is : (parts : List NsPart) → class_elements (class.Within parts) ≡ sum_by part_elements parts + joint_elements (length parts)
within_is [] = refl
within_is (p ∷ []) = let sum = sum_by-cons part_elements p [] in omega arith
within_is (p ∷ q ∷ ps) = let sum = among_sum (map part_markup (p ∷ q ∷ ps)) ∙ sum_by-map elements_in part_markup (p ∷ q ∷ ps) in omega arith

-- texts and elements that a define itself takes
content_is : (name : List ℕ) → pattern_elements (content_throughout name) ≡ 4
content_is name =
    let parts = expr.Text ∷ expr.Ref name ∷ [] in
    let all = zero_or_more_elements (expr.Choice parts) in
    let choice = choice_of_all parts in
    let first = sum_by-cons pattern_elements expr.Text (expr.Ref name ∷ []) in
    let second = sum_by-cons pattern_elements (expr.Ref name) [] in
    let text = text_elements in
    let reference = ref_elements name in
    omega arith

-- an element over them has those of its name class and eight more
throughout_is : (names : NameClass) (name : List ℕ) → body_elements (body.Element names attributes.AnyAttributes (content_throughout name)) ≡ class_elements names + throughout_elements
throughout_is names name =
    let inside = class_markup names ++ any_attributes ∷ [] ++ pattern_markup (content_throughout name) ∷ [] in
    let whole = among_sum inside in
    let before = class_markup names ++ any_attributes ∷ [] in
    let outer = sum_by-append elements_in before (pattern_markup (content_throughout name) ∷ []) in
    let inner = sum_by-append elements_in (class_markup names) (any_attributes ∷ []) in
    let content = content_is name in
    omega arith

-- so of all names but some, where no namespace is required
pub nothing_required : (name : List ℕ) (c : Condition) → c.require ≡ []
    → (condition_body name c ≡ body.Element (class.AnyBut c.spaces c.names) attributes.AnyAttributes (content_throughout name))
    × (body_elements (condition_body name c) ≡ excepting_elements (length c.spaces + length c.names) + throughout_elements)
nothing_required name c none =
    let is : condition_body name c ≡ body.Element (class.AnyBut c.spaces c.names) attributes.AnyAttributes (content_throughout name) = ap (body_requiring name c) none in
    (is, ap body_elements is ∙ throughout_is (class.AnyBut c.spaces c.names) name ∙ ap (λ n. n + throughout_elements) (any_but_is c.spaces c.names))

-- and of the namespaces that are left, where some are required
module _ (name : List ℕ) (c : Condition) (some : c.require ≡ [] → ⊥) where
  abbrev parts : List NsPart
  parts = map (space_part c) (spaces_left c)

  required : condition_body name c ≡ body_within name parts
  required = by c.require some
    where
      by : (require : List (List ℕ)) → (require ≡ [] → ⊥) → body_requiring name c require ≡ body_within name parts
      by [] other = absurd (other refl)
      by (space ∷ spaces) other = refl

  -- it has the elements of these in it
  pub parts_in_body : sum_by part_elements (map (space_part c) (spaces_left c)) ≤ body_elements (condition_body name c)
  parts_in_body = let here = by parts in let same = ap body_elements required in omega arith
    where
      by : (left : List NsPart) → sum_by part_elements left ≤ body_elements (body_within name left)
      by [] = omega arith
      by (part ∷ rest) = let whole = throughout_is (class.Within (part ∷ rest)) name in let all = within_is (part ∷ rest) in omega arith

  pub some_left : (map (space_part c) (spaces_left c) ≡ [] → ⊥)
      → (condition_body name c ≡ body.Element (class.Within (map (space_part c) (spaces_left c))) attributes.AnyAttributes (content_throughout name))
      × (body_elements (condition_body name c)
      ≡ sum_by part_elements (map (space_part c) (spaces_left c)) + joint_elements (length (map (space_part c) (spaces_left c))) + throughout_elements)
  some_left others =
      let is = required ∙ by parts others in
      (is, ap body_elements is ∙ throughout_is (class.Within parts) name ∙ ap (λ n. n + throughout_elements) (within_is parts))
    where
      by : (left : List NsPart) → (left ≡ [] → ⊥) → body_within name left ≡ body.Element (class.Within left) attributes.AnyAttributes (content_throughout name)
      by [] other = absurd (other refl)
      by (part ∷ rest) other = refl
