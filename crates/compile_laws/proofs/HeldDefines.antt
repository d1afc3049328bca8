-- The defines of elements, classes and macros, with the laws of a class and of the start.
use Rattle.std.proofs.Common.{◌≡◌, ◌↔◌, ℕ, List, [], ◌∷◌, inl, inr, refl, sym, subst, ◌∙◌, false, Some, take, codes, ap, Bool, true, Option, None, filter}
use Rattle.std.proofs.lemmas.Bool.{false≢true}
use Rattle.std.specs.FinMap.{find}
use Rattle.std.specs.Prelude.{IsTrue}
use Rattle.compile_defines.proofs.Standing.{IsElementAt, IsMacroAt, filter_passed, stands_filter, filter_stands}
use Rattle.compile_defines.specs.Contents.{define_name, reference, references_pattern, class_name, condition_name, content_pattern, macro_name, members_pattern}
use Rattle.compile_defines.proofs.NamedDefines.{element_of}
use Rattle.compile_defines.specs.Compiled as compiled
use Rattle.compile_defines.specs.Data.{datatype_name}
use Rattle.compile_defines.specs.Compiled.{AllOffers, IsDefineOf, IsGrammarOf, class_define, element_body, element_define, macro_define}
use Rattle.odd_classes.proofs.Linked.{held}
use Rattle.odd_content.specs.Picking.{is_picked}
use Rattle.odd_content.specs.declared.content.Condition.{Condition}
use Rattle.odd_content.specs.declared.content.Pick.{Pick}
use Rattle.odd_content.specs.declared.content.Pick.TheVariants as pick
use Rattle.odd_graph.proofs.Chains.{last_step}
use Rattle.odd_library.specs.Formed.{IsFormedLibrary}
use Rattle.odd_library.specs.Odd.{element_key}
use Rattle.odd_library.specs.declared.library.ClassPart.{ClassPart}
use Rattle.odd_library.specs.declared.library.Component.{Component}
use Rattle.odd_library.specs.declared.library.Component.TheVariants as component
use Rattle.odd_library.specs.declared.library.ElementPart.{ElementPart}
use Rattle.odd_library.specs.declared.library.Library.{Library}
use Rattle.odd_library.specs.declared.library.OtherPart.{OtherPart}
use Rattle.odd_meaning.specs.Classes.{Members, IsListed, IsMember, IsModel}
use Rattle.odd_meaning.specs.Contents.{IsOne, IsOneMember}
use Rattle.odd_meaning.specs.Labels.{Label, element}
use Rattle.odd_meaning.specs.Links.{IsLinked, class_key, classes_of}
use Rattle.odd_meaning.specs.Rules.{IsOfAttributes}
use Rattle.odd_text.specs.Key.{key_cmp}
use Rattle.odd_text.specs.Same.{is_same}
use Rattle.odd_tree.proofs.InTree.{element_shown}
use Rattle.odd_text.specs.Standing.{StandsIn}
use Rattle.odd_tree.specs.Significant.{Marking}
use Rattle.odd_tree.specs.declared.tree.Node.{Node, Element}
use Rattle.odd_tree.specs.declared.tree.Tree.{Tree}
use Rattle.rng_grammar.proofs.OnePattern.{ref_shown, told}
use Rattle.rng_grammar.specs.Patterns as patterns
use Rattle.rng_grammar.specs.Patterns.{DefinesElement, IsDefined, IsMatched}
use Rattle.rng_grammar.specs.declared.grammar.Body.{Body}
use Rattle.rng_grammar.specs.declared.grammar.Body.TheVariants as body
use Rattle.rng_grammar.specs.declared.grammar.Define.{Define}
use Rattle.rng_grammar.specs.declared.grammar.Expr.{Expr}
use Rattle.rng_grammar.specs.declared.grammar.Expr.TheOpen as shape
use Rattle.rng_grammar.specs.declared.grammar.Expr.TheVariants as expr
use Rattle.rng_grammar.specs.declared.grammar.Grammar.{Grammar}
use Rattle.compile_laws.proofs.ConditionClass.{one_body}
use Rattle.compile_laws.proofs.ChildLaws.{references_law, none_matched}
use Rattle.compile_laws.proofs.Pieces.{Same}

-- equal nodes hold equal elements
same_element : (t u : Tree) → Element t ∷ [] ≡ Element u ∷ [] → t ≡ u
same_element t u e =
    let nodes : Element t ≡ Element u = cc in
    let shown : t ∷ [] ≡ u ∷ [] = sym (element_shown (Element t) t refl) ∙ element_shown (Element t) u nodes in
    cc

-- no name of an element's define is that of a define without an `element`
abbrev pub HoldElements : Grammar → Type 0
HoldElements g = (ident : List ℕ) (p : Expr) → IsDefined g (define_name ident) (body.Part p) → ⊥

module _ (g : Grammar) (hold : HoldElements g) (counts : Marking (List ℕ)) where
  -- the element counts for the define of a word
  abbrev IsOf : Tree → List ℕ → Type 0
  IsOf t word = DefinesElement g (define_name word) × counts t (define_name word)

  -- one element that the define holds, and that counts for it
  pub record IsOneOf (word : List ℕ) (children : List Node) : Type 0 where
    pub tree : Tree
    pub alone : children ≡ Element tree ∷ []
    pub is_of : IsOf tree word

  -- a reference to an element's define matches one element that counts for it
  pub reference_law : (word : List ℕ) (children : List Node) → IsMatched g counts (reference word) children ↔ IsOneOf word children
  reference_law word children = (
    λ m. elim (told g counts (reference word) (shape.Ref (define_name word)) children (ref_shown (define_name word)) m) [
      | inl one ↦ record { tree = one.0; alone = one.2; is_of = (one.1, one.3) }
      | inr part ↦ absurd (hold word part.0 part.1)
    ],
    λ o. patterns.leaf (patterns.element o.is_of.0 o.alone o.is_of.1),
  )

  -- so of one element it tells that
  reference_one : (word : List ℕ) (t : Tree) → IsMatched g counts (reference word) (Element t ∷ []) → IsOf t word
  reference_one word t m = let o = (reference_law word (Element t ∷ [])).0 m in subst (λ u. IsOf u word) (sym (same_element t o.tree o.alone)) o.is_of

  -- the element counts for the define of a start word
  abbrev Starts : List (List ℕ) → Tree → Type 0
  Starts start t = (word : List ℕ) × StandsIn start word × DefinesElement g (define_name word) × counts t (define_name word)

  -- so the start matches an element that counts for a start word
  pub start_law : (start : List (List ℕ)) (t : Tree) → IsMatched g counts (references_pattern start) (Element t ∷ []) ↔ Starts start t
  start_law start t = (
    λ m. let h = (references_law g counts start (Element t ∷ [])).0 m in let o = reference_one h.0 t h.2 in (h.0, h.1, o.0, o.1),
    λ s. (references_law g counts start (Element t ∷ [])).1 (s.0, s.1, patterns.leaf (patterns.element s.2 refl s.3)),
  )

-- defines of two elements have two names
one_name : (a b : List ℕ) → define_name a ≡ define_name b → a ≡ b
one_name a b e = cc

-- and a name that begins with another letter is not that of an element's
other_name : (name ident : List ℕ) → is_same (take 1 name) (codes "e") ≡ false → define_name ident ≡ name → ⊥
other_name name ident other e = false≢true (sym other ∙ ap (λ n. is_same (take 1 n) (codes "e")) (sym e))

-- the body of a held element's define
pub record IsBodyOf (library : Library) (conditions : List Condition) (members : Members) (offers : AllOffers) (ident : List ℕ) (b : Body) : Type 0 where
  pub part : ElementPart
  pub held : IsElementAt library ident part
  pub is : b ≡ element_body library conditions members (offers ident) ident part

-- what a define of the name of an element's is
element_bodied : (library : Library) (conditions : List Condition) (members : Members) (offers : AllOffers) (ident : List ℕ) (b : Body)
    → IsDefineOf library conditions members offers (record { name = define_name ident; body = b }) → IsBodyOf library conditions members offers ident b
element_bodied library conditions members offers ident b (compiled.of_condition c s e) = absurd (other_name (condition_name conditions c) ident refl (ap (λ (d : Define). d.name) e))
element_bodied library conditions members offers ident b (compiled.of_class class idents s e) = absurd (other_name (class_name class) ident refl (ap (λ (d : Define). d.name) e))
element_bodied library conditions members offers ident b (compiled.of_datatype key part s e) = absurd (other_name (datatype_name key) ident refl (ap (λ (d : Define). d.name) e))
element_bodied library conditions members offers ident b (compiled.of_macro key part s e) = absurd (other_name (macro_name key) ident refl (ap (λ (d : Define). d.name) e))
element_bodied library conditions members offers ident b (compiled.of_element key part held e) =
    let same : key ≡ ident = sym (one_name ident key (ap (λ (d : Define). d.name) e)) in
    record {
      part = part;
      held = subst (λ x. IsElementAt library x part) same held;
      is = subst (λ x. b ≡ element_body library conditions members (offers x) x part) same (ap (λ (d : Define). d.body) e);
    }

module _ (library : Library) (start : List (List ℕ)) (g : Grammar) (is : IsGrammarOf library start g) where
  -- each held element has its define
  pub held_defined : (ident : List ℕ) (part : ElementPart) → IsElementAt library ident part → IsDefined g (define_name ident) (element_body library is.conditions is.members (is.offers ident) ident part)
  held_defined ident part held = is.are_defines.each (element_define library is.conditions is.members (is.offers ident) ident part) (compiled.of_element ident part held refl)

  -- what is defined by the name of an element's define is the body of that define
  pub defined_held : (ident : List ℕ) (b : Body) → IsDefined g (define_name ident) b → IsBodyOf library is.conditions is.members is.offers ident b
  defined_held ident b s = element_bodied library is.conditions is.members is.offers ident b (is.are_defines.none_else (record { name = define_name ident; body = b }) s)

  -- so it is an `element`
  pub hold_elements : HoldElements g
  hold_elements ident p s = let h = defined_held ident (body.Part p) s in let e = h.is in cc

  module _ (marks : Marking (List ℕ)) where
    -- a reference to a define without an `element` matches what that holds
    part_law : (name : List ℕ) (p : Expr) → IsDefined g name (body.Part p) → (w : List Node) → IsMatched g marks p w ↔ IsMatched g marks (expr.Ref name) w
    part_law name p d w = (
      λ m. patterns.part d m,
      λ m. elim (told g marks (expr.Ref name) (shape.Ref name) w (ref_shown name) m) [
        | inl one ↦ let other = one.1 in let e = one_body library start g is name _ _ d other.defined in cc
        | inr part ↦
            let e = one_body library start g is name (body.Part part.0) (body.Part p) part.1 d in
            let same : part.0 ≡ p = cc in
            subst (λ q. IsMatched g marks q w) same part.2
      ],
    )

    -- one to a class matches what the references to its members match
    pub class_law : (class : List ℕ) (idents : List (List ℕ)) → is.members class ≡ Some idents
        → (w : List Node) → IsMatched g marks (references_pattern idents) w ↔ IsMatched g marks (expr.Ref (class_name class)) w
    class_law class idents listed = part_law (class_name class) (references_pattern idents) (is.are_defines.each (class_define class idents) (compiled.of_class class idents listed refl))

    -- one to a macro what the pattern of its content matches
    pub macro_law : (ident : List ℕ) (part : OtherPart) → IsMacroAt library ident part
        → (w : List Node) → IsMatched g marks (content_pattern library is.conditions is.members part.content) w ↔ IsMatched g marks (expr.Ref (macro_name ident)) w
    macro_law ident part held =
        part_law (macro_name ident) (content_pattern library is.conditions is.members part.content)
        (is.are_defines.each (macro_define library is.conditions is.members ident part) (compiled.of_macro ident part held refl))

-- in a formed library a class that has a member, and is none of attributes, is of type `model`
member_model : (library : Library) → IsFormedLibrary library → (class ident : List ℕ) → (IsOfAttributes library class → ⊥) → IsMember library class (element_key ident) → IsModel library class
member_model library f class ident other m =
    let s = (last_step (IsLinked classes_of library) (element_key ident) (class_key class) m).1 in
    let h = held (class_key class) library s.other_held in
    by h.0 h.1
  where
    of_class : (part : ClassPart) → find key_cmp (class_key class) library.parts ≡ Some (component.Class part) → (gives : Bool) → part.gives ≡ gives → IsModel library class
    of_class part e true h = absurd (other (record { part = part; held = e; gives = h }))
    of_class part e false h = record { part = part; held = e; gives = h }

    by : (part : Component) → find key_cmp (class_key class) library.parts ≡ Some part → IsModel library class
    by (component.Class part) e = of_class part e part.gives refl
    by part e = absurd (f.formed (class_key class) part e).1

module _ (library : Library) (start : List (List ℕ)) (g : Grammar) (is : IsGrammarOf library start g) (marks : Marking (List ℕ)) where
  -- a reference to one of some idents that is picked matches
  record IsOneReferred (p : Pick) (idents : List (List ℕ)) (w : List Node) : Type 0 where
    ident : List ℕ
    among : StandsIn idents ident
    picked : IsTrue (is_picked p ident)
    matched : IsMatched g marks (reference ident) w

  -- those that are picked are those that pass
  picked_law : (p : Pick) (idents : List (List ℕ)) (w : List Node) → IsMatched g marks (references_pattern (filter (is_picked p) idents)) w ↔ IsOneReferred p idents w
  picked_law p idents w = (
    λ m.
        let h = (references_law g marks (filter (is_picked p) idents) w).0 m in
        record {
          ident = h.0;
          among = filter_stands (is_picked p) idents h.0 h.1;
          picked = filter_passed (is_picked p) idents h.0 h.1;
          matched = h.2;
        },
    λ r. (references_law g marks (filter (is_picked p) idents) w).1 (r.ident, stands_filter (is_picked p) idents r.ident r.among r.picked, r.matched),
  )

  -- the pattern of a class matches what a reference to a member that is picked does
  members_law : (class : List ℕ) (p : Pick) (idents : List (List ℕ)) → is.members class ≡ Some idents
      → (w : List Node) → IsMatched g marks (members_pattern class p (Some idents)) w ↔ IsOneReferred p idents w
  members_law class pick.All idents listed w = (
    λ m.
        let h = (references_law g marks idents w).0 ((class_law library start g is marks class idents listed w).1 m) in
        record { ident = h.0; among = h.1; picked = refl; matched = h.2 },
    λ r. (class_law library start g is marks class idents listed w).0 ((references_law g marks idents w).1 (r.ident, r.among, r.matched)),
  )
  members_law class (pick.Include words) idents listed w = picked_law (pick.Include words) idents w
  members_law class (pick.Except words) idents listed w = picked_law (pick.Except words) idents w

  module _ (f : IsFormedLibrary library) (counts : Marking Label) (Q : Node → Type 0) (referred : (key : List ℕ) → Same Q (IsOne counts (element key)) (IsMatched g marks (reference key))) where
    -- and so one element that counts for such a member
    pub class_kept : (class : List ℕ) (p : Pick) → (IsOfAttributes library class → ⊥)
        → Same Q (IsOneMember library counts class p) (IsMatched g marks (members_pattern class p (is.members class)))
    class_kept class p other w q = by (is.members class) refl (is.are_members class)
      where
        by : (listed : Option (List (List ℕ))) → is.members class ≡ listed → IsListed library class listed
            → IsOneMember library counts class p w ↔ IsMatched g marks (members_pattern class p listed) w
        by None e none = (λ o. absurd (none (member_model library f class o.ident other o.member)), λ m. absurd (none_matched g marks w m))
        by (Some idents) e listed = (
          λ o. (members_law class p idents e w).1 (record {
            ident = o.ident;
            among = listed.1.each o.ident (element_of library class o.ident f o.member);
            picked = o.picked;
            matched = (referred o.ident w q).0 o.one;
          }),
          λ m.
              let r = (members_law class p idents e w).0 m in
              record { ident = r.ident; member = (listed.1.none_else r.ident r.among).member; picked = r.picked; one = (referred r.ident w q).1 r.matched },
        )
