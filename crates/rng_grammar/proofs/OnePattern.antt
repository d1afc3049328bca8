-- An element of a schema is one pattern, and what a match tells of a pattern whose kind is known.
use Rattle.std.proofs.Common.{◌≡◌, ℕ, false, List, [], ◌∷◌, codes, Option, Some, None, unwrap_or, if◌then◌else◌, refl, sym, ap, subst, ◌∙◌, suc, ◌⊎◌, inl, inr, ⊎_elim, rules}
use Rattle.std.proofs.lemmas.Bool.{false≢true}
use Rattle.std.proofs.lemmas.Option.{same_Some}
use Rattle.std.specs.List.{list_any}
use Rattle.odd_text.specs.Same.{is_same}
use Rattle.odd_text.proofs.InList.{stands_first}
use Rattle.odd_tree.proofs.PrintedTrees.{same_from}
use Rattle.odd_text.specs.Standing.{StandsIn}
use Rattle.odd_tree.specs.Elements.{given}
use Rattle.odd_tree.specs.Significant.{Marking, is_element}
use Rattle.odd_tree.specs.declared.tree.Node.{Node, Element}
use Rattle.odd_tree.specs.declared.tree.Tree.{Tree, out-Tree}
use Rattle.rng_types.specs.declared.data_type.DataType.{DataType}
use Rattle.rng_types.specs.declared.facet.Facet.{Facet}
use Rattle.rng_grammar.proofs.OneData.{one_data, one_same}
use Rattle.rng_grammar.specs.Denoting.{AreOnePattern, ArePatterns, HasName, IsData, IsLeaf, IsNamed, IsPart, IsPattern, IsSame, grouped, parts_of}
use Rattle.rng_grammar.specs.Denoting as denoting
use Rattle.rng_grammar.specs.Linked.{HasPart, RefersTo}
use Rattle.rng_grammar.specs.Linked as linked
use Rattle.rng_grammar.specs.Names.{relax_ng}
use Rattle.rng_grammar.specs.Patterns.{AreMatched, AreMatchedBy, DefinesElement, IsDefined, IsMatched, IsMatchedBy, IsRepeated, IsRepeatedBy, TakesChildren}
use Rattle.rng_grammar.specs.Patterns as patterns
pub use Rattle.rng_grammar.specs.Weighing.{parts_in}
use Rattle.rng_grammar.specs.declared.grammar.Body.TheVariants as body
use Rattle.rng_grammar.specs.declared.grammar.Expr.{Expr, Expr-F, out-Expr}
use Rattle.rng_grammar.specs.declared.grammar.Expr as E
use Rattle.rng_grammar.specs.declared.grammar.Expr.TheOpen as shape
use Rattle.rng_grammar.specs.declared.grammar.Expr.TheVariants as expr
use Rattle.rng_grammar.specs.declared.grammar.Grammar.{Grammar}

-- an element has one name
one_name : (t : Tree) (a b : List ℕ) (p q : List (List ℕ)) → IsNamed a p t → IsNamed b q t → a ≡ b
one_name t a b p q h k = ap (λ n. n.local) (sym h.named ∙ k.named)

-- and so not two
pub two_names : {R : Type 0} (t : Tree) (a b : List ℕ) (p q : List (List ℕ)) → is_same a b ≡ false → IsNamed a p t → IsNamed b q t → R
two_names t a b p q e h k = absurd (false≢true (sym e ∙ same_from a b (one_name t a b p q h k)))

-- and one attribute of a name
pub one_given : (t : Tree) (a b : List ℕ) → HasName t a → HasName t b → a ≡ b
one_given t a b h k = same_Some _ _ (sym h.is_given ∙ k.is_given)

-- the pattern of some parts, of which there is one at least
abbrev of_parts : (Expr → List Expr → Expr) → List Expr → Option Expr
of_parts whole [] = None
of_parts whole (first ∷ more) = Some (whole first more)

-- the pattern of an element of this name, with this attribute `name` and these parts, where it is none of a value
abbrev made : List ℕ → List ℕ → List Expr → Option Expr
made local name parts =
    if is_same local (codes "empty") then Some expr.Empty
    else (if is_same local (codes "notAllowed") then Some expr.NotAllowed
    else (if is_same local (codes "text") then Some expr.Text
    else (if is_same local (codes "ref") then Some (expr.Ref name)
    else (if is_same local (codes "list") then of_parts (λ first more. expr.List (grouped first more)) parts
    else (if is_same local (codes "group") then of_parts (λ first more. expr.Group (first ∷ more)) parts
    else (if is_same local (codes "choice") then of_parts (λ first more. expr.Choice (first ∷ more)) parts
    else (if is_same local (codes "optional") then of_parts (λ first more. expr.Optional (grouped first more)) parts
    else (if is_same local (codes "zeroOrMore") then of_parts (λ first more. expr.ZeroOrMore (grouped first more)) parts
    else (if is_same local (codes "oneOrMore") then of_parts (λ first more. expr.OneOrMore (grouped first more)) parts
    else None)))))))))

-- what tells the pattern of an element
record IsMade (t : Tree) (p : Expr) : Type 0 where
  parts : List Expr
  are : ArePatterns (parts_of t) parts
  is : made (out-Tree t).name.local (unwrap_or (given t (codes "name")) []) parts ≡ Some p

-- or it is a `data` or a `value`
data IsTold (t : Tree) (p : Expr) : Type 0 where
  by_parts : IsMade t p → IsTold t p
  of_data : (k : DataType) (facets : List Facet) → p ≡ expr.Typed k facets → IsData t k facets → IsTold t p
  of_value : (text : List ℕ) → p ≡ expr.Same text → IsSame t text → IsTold t p

-- an element without a part tells it by its name alone
abbrev leaf_made : (t : Tree) (p : Expr) (local : List ℕ) (allowed : List (List ℕ)) → IsLeaf local allowed t → made local (unwrap_or (given t (codes "name")) []) [] ≡ Some p → IsMade t p
leaf_made t p local allowed h e = record {
  parts = [];
  are = subst (λ ts. ArePatterns ts []) (sym h.alone) denoting.none;
  is = ap (λ n. made n.local (unwrap_or (given t (codes "name")) []) []) h.is_part.is_named.named ∙ e;
}

-- one with parts tells it by them too
abbrev part_made : (t : Tree) (p : Expr) (local : List ℕ) (parts : List Expr) → IsPart local [] t → ArePatterns (parts_of t) parts
    → made local (unwrap_or (given t (codes "name")) []) parts ≡ Some p → IsMade t p
part_made t p local parts h hs e = record { parts = parts; are = hs; is = ap (λ n. made n.local (unwrap_or (given t (codes "name")) []) parts) h.is_named.named ∙ e }

-- each pattern is told so
as_told : (t : Tree) (p : Expr) → IsPattern t p → IsTold t p
as_told t p (denoting.empty h) = by_parts (leaf_made t _ _ _ h refl)
as_told t p (denoting.not_allowed h) = by_parts (leaf_made t _ _ _ h refl)
as_told t p (denoting.text h) = by_parts (leaf_made t _ _ _ h refl)
as_told t p (denoting.data_of h) = of_data _ _ refl h
as_told t p (denoting.value h) = of_value _ refl h
as_told t p (denoting.reference {name = name} h n) = by_parts (leaf_made t _ _ _ h (ap (λ g. Some (expr.Ref (unwrap_or g []))) n.is_given))
as_told t p (denoting.list first more h hs is) = by_parts (part_made t p _ _ h hs (ap Some (sym is)))
as_told t p (denoting.group first more h hs is) = by_parts (part_made t p _ _ h hs (ap Some (sym is)))
as_told t p (denoting.choice first more h hs is) = by_parts (part_made t p _ _ h hs (ap Some (sym is)))
as_told t p (denoting.optional first more h hs is) = by_parts (part_made t p _ _ h hs (ap Some (sym is)))
as_told t p (denoting.zero_or_more first more h hs is) = by_parts (part_made t p _ _ h hs (ap Some (sym is)))
as_told t p (denoting.one_or_more first more h hs is) = by_parts (part_made t p _ _ h hs (ap Some (sym is)))

-- an element of another name than `data` and `value`
abbrev IsOther : List ℕ → Tree → Type 0
IsOther local t = ((out-Tree t).name ≡ relax_ng local) × (is_same local (codes "data") ≡ false) × (is_same local (codes "value") ≡ false)

-- tells it by its parts
as_made : (t : Tree) (p : Expr) (local : List ℕ) → IsOther local t → IsPattern t p → IsMade t p
as_made t p local o h = by (as_told t p h)
  where
    apart : (other : List ℕ) (allowed : List (List ℕ)) → is_same local other ≡ false → IsNamed other allowed t → ⊥
    apart other allowed e n = false≢true (sym e ∙ same_from local other (ap (λ n. n.local) (sym o.0 ∙ n.named)))

    by : IsTold t p → IsMade t p
    by (by_parts m) = m
    by (of_data k facets is d) = absurd (apart (codes "data") _ o.1 d.is_part.is_named)
    by (of_value text is v) = absurd (apart (codes "value") _ o.2 v.is_named)

-- no element is told by its parts whose name tells none
not_made : (t : Tree) (q : Expr) (local : List ℕ) → (out-Tree t).name ≡ relax_ng local → ((parts : List Expr) → made local (unwrap_or (given t (codes "name")) []) parts ≡ None) → IsMade t q → ⊥
not_made t q local e none m =
    let is : None ≡ Some q = sym (none m.parts) ∙ ap (λ n. made n.local (unwrap_or (given t (codes "name")) []) m.parts) (sym e) ∙ m.is in
    cc

-- no pattern has a name of which none is made
pub no_pattern : (t : Tree) (p : Expr) (local : List ℕ) → IsOther local t → ((parts : List Expr) → made local (unwrap_or (given t (codes "name")) []) parts ≡ None) → IsPattern t p → ⊥
no_pattern t p local o none h = not_made t p local o.0 none (as_made t p local o h)

-- the first of some elements is a pattern where all are
pub first_pattern : (ts : List Tree) (u : Tree) (us : List Tree) (ps : List Expr) → ts ≡ u ∷ us → ArePatterns ts ps → (p : Expr) × IsPattern u p
first_pattern ts u us ps e denoting.none = cc
first_pattern ts u us ps e (denoting.more {t = t} {p = p} h hs) = let same : t ≡ u = cc in (p, subst (λ x. IsPattern x p) same h)

-- and so is the first part of a pattern that has parts
pub pattern_inside : (t u : Tree) (us : List Tree) (p : Expr) (local : List ℕ) → IsOther local t → parts_of t ≡ u ∷ us → IsPattern t p → (q : Expr) × IsPattern u q
pattern_inside t u us p local o e h = let m = as_made t p local o h in first_pattern (parts_of t) u us m.parts e m.are

-- the patterns of the same parts are the same
same_made : (t : Tree) (p q : Expr) (h : IsMade t p) (k : IsMade t q) → h.parts ≡ k.parts → p ≡ q
same_made t p q h k e = same_Some p q (sym h.is ∙ ap (made (out-Tree t).name.local (unwrap_or (given t (codes "name")) [])) e ∙ k.is)

-- no part, no pattern
no_parts : (ts : List Tree) (ps : List Expr) → ts ≡ [] → ArePatterns ts ps → [] ≡ ps
no_parts ts ps e denoting.none = refl
no_parts ts ps e (denoting.more h hs) = cc

-- so a `data` is one pattern, and a `value` one
data_alone : (t : Tree) (k : DataType) (facets : List Facet) (q : Expr) → IsData t k facets → IsTold t q → expr.Typed k facets ≡ q
data_alone t k facets q h (by_parts m) = absurd (not_made t q (codes "data") h.is_part.is_named.named (λ parts. refl) m)
data_alone t k facets q h (of_data l others is d) = one_data t k l facets others h d ∙ sym is
data_alone t k facets q h (of_value text is v) = two_names t (codes "data") (codes "value") _ _ refl h.is_part.is_named v.is_named

value_alone : (t : Tree) (text : List ℕ) (q : Expr) → IsSame t text → IsTold t q → expr.Same text ≡ q
value_alone t text q h (by_parts m) = absurd (not_made t q (codes "value") h.is_named.named (λ parts. refl) m)
value_alone t text q h (of_data k facets is d) = two_names t (codes "value") (codes "data") _ _ refl h.is_named d.is_part.is_named
value_alone t text q h (of_value other is v) = ap expr.Same (one_same t text other h v) ∙ sym is

mutual
  -- an element is one pattern
  pub one_pattern : (t : Tree) (p q : Expr) → IsPattern t p → IsPattern t q → p ≡ q
  one_pattern t p q (denoting.empty h) k =
      let o : IsOther _ t = (h.is_part.is_named.named, refl, refl) in
      let m = as_made t q _ o k in
      same_made t _ q (leaf_made t _ _ _ h refl) m (no_parts _ m.parts h.alone m.are)
  one_pattern t p q (denoting.not_allowed h) k =
      let o : IsOther _ t = (h.is_part.is_named.named, refl, refl) in
      let m = as_made t q _ o k in
      same_made t _ q (leaf_made t _ _ _ h refl) m (no_parts _ m.parts h.alone m.are)
  one_pattern t p q (denoting.text h) k =
      let o : IsOther _ t = (h.is_part.is_named.named, refl, refl) in
      let m = as_made t q _ o k in
      same_made t _ q (leaf_made t _ _ _ h refl) m (no_parts _ m.parts h.alone m.are)
  one_pattern t p q (denoting.reference h n) k =
      let o : IsOther _ t = (h.is_part.is_named.named, refl, refl) in
      let m = as_made t q _ o k in
      same_made t _ q (leaf_made t _ _ _ h (ap (λ g. Some (expr.Ref (unwrap_or g []))) n.is_given)) m (no_parts _ m.parts h.alone m.are)
  one_pattern t p q (denoting.data_of h) k = data_alone t _ _ q h (as_told t q k)
  one_pattern t p q (denoting.value h) k = value_alone t _ q h (as_told t q k)
  one_pattern t p q (denoting.list first more h hs is) k =
      let o : IsOther _ t = (h.is_named.named, refl, refl) in
      let m = as_made t q _ o k in
      same_made t p q (part_made t p _ _ h hs (ap Some (sym is))) m (one_patterns _ _ m.parts hs m.are)
  one_pattern t p q (denoting.group first more h hs is) k =
      let o : IsOther _ t = (h.is_named.named, refl, refl) in
      let m = as_made t q _ o k in
      same_made t p q (part_made t p _ _ h hs (ap Some (sym is))) m (one_patterns _ _ m.parts hs m.are)
  one_pattern t p q (denoting.choice first more h hs is) k =
      let o : IsOther _ t = (h.is_named.named, refl, refl) in
      let m = as_made t q _ o k in
      same_made t p q (part_made t p _ _ h hs (ap Some (sym is))) m (one_patterns _ _ m.parts hs m.are)
  one_pattern t p q (denoting.optional first more h hs is) k =
      let o : IsOther _ t = (h.is_named.named, refl, refl) in
      let m = as_made t q _ o k in
      same_made t p q (part_made t p _ _ h hs (ap Some (sym is))) m (one_patterns _ _ m.parts hs m.are)
  one_pattern t p q (denoting.zero_or_more first more h hs is) k =
      let o : IsOther _ t = (h.is_named.named, refl, refl) in
      let m = as_made t q _ o k in
      same_made t p q (part_made t p _ _ h hs (ap Some (sym is))) m (one_patterns _ _ m.parts hs m.are)
  one_pattern t p q (denoting.one_or_more first more h hs is) k =
      let o : IsOther _ t = (h.is_named.named, refl, refl) in
      let m = as_made t q _ o k in
      same_made t p q (part_made t p _ _ h hs (ap Some (sym is))) m (one_patterns _ _ m.parts hs m.are)

  -- and several are one list of patterns
  pub one_patterns : (ts : List Tree) (ps qs : List Expr) → ArePatterns ts ps → ArePatterns ts qs → ps ≡ qs
  one_patterns ts ps qs denoting.none denoting.none = refl
  one_patterns ts ps qs (denoting.more h hs) (denoting.more k ks) = λ n. one_pattern _ _ _ h k n ∷ one_patterns _ _ _ hs ks n

-- elements are together one pattern
pub one_together : (ts : List Tree) (p q : Expr) → AreOnePattern ts p → AreOnePattern ts q → p ≡ q
one_together ts p q h k =
    let same : h.first ∷ h.more ≡ k.first ∷ k.more = one_patterns ts (h.first ∷ h.more) (k.first ∷ k.more) h.are k.are in
    let first : h.first ≡ k.first = cc in
    let more : h.more ≡ k.more = cc in
    h.one ∙ (λ n. grouped (first n) (more n)) ∙ sym k.one

-- the kind of a pattern, and its parts

pub empty_shown : out-Expr expr.Empty ≡ shape.Empty
empty_shown = search (rules, E.the_lemmas)

pub text_shown : out-Expr expr.Text ≡ shape.Text
text_shown = search (rules, E.the_lemmas)

pub ref_shown : (name : List ℕ) → out-Expr (expr.Ref name) ≡ shape.Ref name
ref_shown name = search (rules, E.the_lemmas)

pub list_shown : (part : Expr) → out-Expr (expr.List part) ≡ shape.List part
list_shown part = search (rules, E.the_lemmas)

pub group_shown : (parts : List Expr) → out-Expr (expr.Group parts) ≡ shape.Group parts
group_shown parts = search (rules, E.the_lemmas)

pub choice_shown : (parts : List Expr) → out-Expr (expr.Choice parts) ≡ shape.Choice parts
choice_shown parts = search (rules, E.the_lemmas)

pub optional_shown : (part : Expr) → out-Expr (expr.Optional part) ≡ shape.Optional part
optional_shown part = search (rules, E.the_lemmas)

pub zero_or_more_shown : (part : Expr) → out-Expr (expr.ZeroOrMore part) ≡ shape.ZeroOrMore part
zero_or_more_shown part = search (rules, E.the_lemmas)

pub one_or_more_shown : (part : Expr) → out-Expr (expr.OneOrMore part) ≡ shape.OneOrMore part
one_or_more_shown part = search (rules, E.the_lemmas)

-- what a match tells of a pattern of each kind, unless the pattern takes the items by itself
module _ (g : Grammar) {S : Type 0} (Takes : Expr → List S → Type 0) where
  abbrev pub ToldBy : Expr-F Expr → List S → Type 0
  ToldBy shape.Empty items = items ≡ []
  ToldBy (shape.Ref name) items = (p : Expr) × IsDefined g name (body.Part p) × IsMatchedBy g Takes p items
  ToldBy (shape.Group parts) items = AreMatchedBy g Takes parts items
  ToldBy (shape.Choice parts) items = (part : Expr) × StandsIn parts part × IsMatchedBy g Takes part items
  ToldBy (shape.Optional part) items = (items ≡ []) ⊎ IsMatchedBy g Takes part items
  ToldBy (shape.ZeroOrMore part) items = (n : ℕ) × IsRepeatedBy g Takes n part items
  ToldBy (shape.OneOrMore part) items = (n : ℕ) × IsRepeatedBy g Takes (suc n) part items
  ToldBy other items = ⊥

  -- each match tells it
  pub told_by : (p : Expr) (q : Expr-F Expr) (items : List S) → out-Expr p ≡ q → IsMatchedBy g Takes p items → Takes p items ⊎ ToldBy q items
  told_by p q items e (patterns.leaf t) = inl t
  told_by p q items e patterns.empty = inr (subst (λ x. ToldBy x []) (sym empty_shown ∙ e) refl)
  told_by p q items e (patterns.part {name = name} {p = inner} d m) = inr (subst (λ x. ToldBy x items) (sym (ref_shown name) ∙ e) (inner, d, m))
  told_by p q items e (patterns.group {parts = parts} is m) = inr (subst (λ x. ToldBy x items) (sym (ap out-Expr is ∙ group_shown parts) ∙ e) m)
  told_by p q items e (patterns.choice {part = part} {parts = parts} is s m) = inr (subst (λ x. ToldBy x items) (sym (ap out-Expr is ∙ choice_shown parts) ∙ e) (part, s, m))
  told_by p q items e (patterns.absent part is) = inr (subst (λ x. ToldBy x []) (sym (ap out-Expr is ∙ optional_shown part) ∙ e) (inl refl))
  told_by p q items e (patterns.present {part = part} is m) = inr (subst (λ x. ToldBy x items) (sym (ap out-Expr is ∙ optional_shown part) ∙ e) (inr m))
  told_by p q items e (patterns.zero_or_more {part = part} n is m) = inr (subst (λ x. ToldBy x items) (sym (ap out-Expr is ∙ zero_or_more_shown part) ∙ e) (n, m))
  told_by p q items e (patterns.one_or_more {part = part} n is m) = inr (subst (λ x. ToldBy x items) (sym (ap out-Expr is ∙ one_or_more_shown part) ∙ e) (n, m))

-- what a match of children tells
module _ (g : Grammar) (counts : Marking (List ℕ)) where
  -- of a pattern of each kind
  abbrev pub Told : Expr-F Expr → List Node → Type 0
  Told shape.Empty children = children ≡ []
  Told shape.Text children = list_any is_element children ≡ false
  Told (shape.Ref name) children = ((t : Tree) × DefinesElement g name × (children ≡ Element t ∷ []) × counts t name) ⊎ ((p : Expr) × IsDefined g name (body.Part p) × IsMatched g counts p children)
  Told (shape.Group parts) children = AreMatched g counts parts children
  Told (shape.Choice parts) children = (part : Expr) × StandsIn parts part × IsMatched g counts part children
  Told (shape.Optional part) children = (children ≡ []) ⊎ IsMatched g counts part children
  Told (shape.ZeroOrMore part) children = (n : ℕ) × IsRepeated g counts n part children
  Told (shape.OneOrMore part) children = (n : ℕ) × IsRepeated g counts (suc n) part children
  Told other children = ⊥

  -- of what a pattern takes by itself
  taken : (p : Expr) (q : Expr-F Expr) (children : List Node) → out-Expr p ≡ q → TakesChildren g counts p children → Told q children
  taken p q children e (patterns.text none) = subst (λ x. Told x children) (sym text_shown ∙ e) none
  taken p q children e (patterns.element {name = name} {t = t} d is m) = subst (λ x. Told x children) (sym (ref_shown name) ∙ e) (inl (t, d, is, m))

  -- and else
  else_told : (q : Expr-F Expr) (children : List Node) → ToldBy g (TakesChildren g counts) q children → Told q children
  else_told shape.Empty children x = x
  else_told shape.NotAllowed children x = absurd x
  else_told shape.Text children x = absurd x
  else_told (shape.Typed kind facets) children x = absurd x
  else_told (shape.Same text) children x = absurd x
  else_told (shape.List part) children x = absurd x
  else_told (shape.Ref name) children x = inr x
  else_told (shape.Group parts) children x = x
  else_told (shape.Choice parts) children x = x
  else_told (shape.Optional part) children x = x
  else_told (shape.ZeroOrMore part) children x = x
  else_told (shape.OneOrMore part) children x = x

  -- each match tells it
  pub told : (p : Expr) (q : Expr-F Expr) (children : List Node) → out-Expr p ≡ q → IsMatched g counts p children → Told q children
  told p q children e m = ⊎_elim (λ t. taken p q children e t) (λ x. else_told q children x) (told_by g (TakesChildren g counts) p q children e m)

-- each part of a pattern is one of these
part_stands : (p part : Expr) → HasPart p part → StandsIn (parts_in (out-Expr p)) part
part_stands p part (linked.list is) = subst (λ x. StandsIn (parts_in x) part) (sym (ap out-Expr is ∙ list_shown part)) (stands_first part [])
part_stands p part (linked.group parts is s) = subst (λ x. StandsIn (parts_in x) part) (sym (ap out-Expr is ∙ group_shown parts)) s
part_stands p part (linked.choice parts is s) = subst (λ x. StandsIn (parts_in x) part) (sym (ap out-Expr is ∙ choice_shown parts)) s
part_stands p part (linked.optional is) = subst (λ x. StandsIn (parts_in x) part) (sym (ap out-Expr is ∙ optional_shown part)) (stands_first part [])
part_stands p part (linked.zero_or_more is) = subst (λ x. StandsIn (parts_in x) part) (sym (ap out-Expr is ∙ zero_or_more_shown part)) (stands_first part [])
part_stands p part (linked.one_or_more is) = subst (λ x. StandsIn (parts_in x) part) (sym (ap out-Expr is ∙ one_or_more_shown part)) (stands_first part [])

-- a pattern that refers to a name is that reference, or a part of it refers to the name
pub refers : (name : List ℕ) (p : Expr) (q : Expr-F Expr) → out-Expr p ≡ q → RefersTo name p → (q ≡ shape.Ref name) ⊎ ((part : Expr) × StandsIn (parts_in q) part × RefersTo name part)
refers name p q e linked.here = inl (sym e ∙ ref_shown name)
refers name p q e (linked.inside {part = part} h r) = inr (part, subst (λ x. StandsIn (parts_in x) part) e (part_stands p part h), r)
