-- Sums that stand still at the greatest number, and patterns by their parts.
use Rattle.std.proofs.Common.{◌≡◌, ◌↔◌, ◌∙◌, ℕ, ◌+◌, ◌<◌, ◌≤◌, ◌⊎◌, zero, suc, List, [], ◌∷◌, Some, inl, inr, ⊎_elim, refl, sym, ap, arith, rules, length, get_or}
use Rattle.std.proofs.lemmas.Cmp.{nat_list_cmp_total}
use Rattle.std.proofs.lemmas.List.{get_or_default}
use Rattle.std.proofs.lemmas.List.Sums.{sum-map, sum_by-append, sum_by-cons}
use Rattle.std.specs.Cmp.{tied_itself}
use Rattle.std.specs.FinMap.{find, is_sorted}
use Rattle.std.specs.Ordering.{ordering_reverse}
use Rattle.std.specs.Prelude.{IsTrue, sum_by}
use Rattle.std.specs.declared.cmp.Ordering.TheVariants.{Equal}
use Rattle.odd_text.proofs.Entries.{as_T, find_at, rising}
use Rattle.odd_text.specs.Map.{IsAfter}
use Rattle.odd_text.specs.Text.{text_cmp}
use Rattle.odd_text.proofs.InList.{StandsOnce, nothing_stands, only_item, stands_first, stands_later}
use Rattle.odd_text.specs.Standing.{StandsIn}
use Rattle.rng_grammar.proofs.OnePattern.{ref_shown, refers}
use Rattle.rng_grammar.specs.Counted.{counted}
use Rattle.rng_grammar.specs.Linked as linked
use Rattle.rng_grammar.specs.Linked.{HasPart, RefersTo}
use Rattle.rng_grammar.specs.Nodes.{element_nodes, nodes}
use Rattle.rng_grammar.specs.Weighing.{LeadsTo, Places, body_weight, parts_in}
use Rattle.rng_grammar.specs.declared.grammar.AttrPart.TheVariants as attributes
use Rattle.rng_grammar.specs.declared.grammar.AttrRule.{AttrRule}
use Rattle.rng_grammar.specs.declared.grammar.Body.TheVariants as body
use Rattle.rng_grammar.specs.declared.grammar.Body.{Body}
use Rattle.rng_grammar.specs.declared.grammar.Expr as E
use Rattle.rng_grammar.specs.declared.grammar.Expr.TheOpen as shape
use Rattle.rng_grammar.specs.declared.grammar.Expr.TheVariants as expr
use Rattle.rng_grammar.specs.declared.grammar.Expr.{Expr, Expr-F, out-Expr, roll-Expr, roll-out-Expr}

-- a sum of counts counts the sum
pub counted_sum : (m n a b : ℕ) → m ≡ counted a → n ≡ counted b → counted (m + n) ≡ counted (a + b)
counted_sum m n a b e f = omega arith

-- items that count alike count alike together
pub sum_alike : {X : Type 0} (f h : X → ℕ) (xs : List X) → ((x : X) → StandsIn xs x → counted (f x) ≡ counted (h x)) → counted (sum_by f xs) ≡ counted (sum_by h xs)
sum_alike f h [] same = refl
sum_alike f h (x ∷ xs) same =
    let first = same x (stands_first x xs) in
    let rest = sum_alike f h xs (λ y s. same y (stands_later x y xs s)) in
    omega (arith, sum_by-cons f x xs, sum_by-cons h x xs)

-- an item is within the sum
sum_above : {X : Type 0} (f : X → ℕ) (xs : List X) (x : X) → StandsIn xs x → f x ≤ sum_by f xs
sum_above f xs x s = rw s.2 (omega (arith, sum_by-append f s.0 (x ∷ s.1), sum_by-cons f x s.1))

-- a pattern that is shown as a reference is one
is_ref : (p : Expr) (name : List ℕ) → out-Expr p ≡ shape.Ref name → p ≡ expr.Ref name
is_ref p name e = sym (roll-out-Expr p) ∙ ap roll-Expr e ∙ expr.rolls-Ref name

-- and one that is not is none
ref_or_not : (p : Expr) → ((name : List ℕ) × (p ≡ expr.Ref name)) ⊎ ((name : List ℕ) → p ≡ expr.Ref name → ⊥)
ref_or_not p = by (out-Expr p) refl
  where
    by : (q : Expr-F Expr) → out-Expr p ≡ q → ((name : List ℕ) × (p ≡ expr.Ref name)) ⊎ ((name : List ℕ) → p ≡ expr.Ref name → ⊥)
    by (shape.Ref name) e = inl (name, is_ref p name e)
    by q e = inr (λ name is. let same = sym e ∙ ap out-Expr is ∙ ref_shown name in cc)

-- each of the patterns that stand in one is a part of it
has_part : (p part : Expr) → StandsIn (parts_in (out-Expr p)) part → HasPart p part
has_part p part s = by (out-Expr p) (sym (roll-out-Expr p)) s
  where
    by : (q : Expr-F Expr) → p ≡ roll-Expr q → StandsIn (parts_in q) part → HasPart p part
    by (shape.List x) e s = linked.list (e ∙ expr.rolls-List x ∙ ap expr.List (sym (only_item x part s)))
    by (shape.Group parts) e s = linked.group parts (e ∙ expr.rolls-Group parts) s
    by (shape.Choice parts) e s = linked.choice parts (e ∙ expr.rolls-Choice parts) s
    by (shape.Optional x) e s = linked.optional (e ∙ expr.rolls-Optional x ∙ ap expr.Optional (sym (only_item x part s)))
    by (shape.ZeroOrMore x) e s = linked.zero_or_more (e ∙ expr.rolls-ZeroOrMore x ∙ ap expr.ZeroOrMore (sym (only_item x part s)))
    by (shape.OneOrMore x) e s = linked.one_or_more (e ∙ expr.rolls-OneOrMore x ∙ ap expr.OneOrMore (sym (only_item x part s)))
    by q e s = absurd (nothing_stands part s)

-- what is added to some of it, and then what comes next
pub added_next : {Old Now Some Next More All : Type 0} → Now ↔ (Old ⊎ Some) → All ↔ (Now ⊎ Next) → More ↔ (Some ⊎ Next) → All ↔ (Old ⊎ More)
added_next now all more = grind arith

-- what is added, said another way
pub added_as : {Old Some More All : Type 0} → All ↔ (Old ⊎ Some) → More ↔ Some → All ↔ (Old ⊎ More)
added_as all more = grind arith

module _ (places : Places) where
  abbrev pub PartLeads : ℕ → Expr → Type 0
  PartLeads place part = LeadsTo places part place

  -- a reference leads to the place of its name
  pub ref_leads : (name : List ℕ) (place : ℕ) → LeadsTo places (expr.Ref name) place ↔ (find text_cmp name places ≡ Some place)
  ref_leads name place = (
    λ l. elim (refers l.name (expr.Ref name) (shape.Ref name) (ref_shown name) l.refers) [ inl e ↦ let same : name ≡ l.name = cc in rw same l.at | inr h ↦ absurd (nothing_stands h.0 h.1) ],
    λ e. record { name = name; refers = linked.here; at = e },
  )

  -- and another pattern where its parts lead
  pub parts_lead : (p : Expr) → ((name : List ℕ) → p ≡ expr.Ref name → ⊥) → (place : ℕ) → LeadsTo places p place ↔ StandsOnce (PartLeads place) (parts_in (out-Expr p))
  parts_lead p other place = (
    λ l. ⊎_elim (λ e. absurd (other l.name (is_ref p l.name e))) (λ h. (h.0, h.1, record { name = l.name; refers = h.2; at = l.at }))
        (refers l.name p (out-Expr p) refl l.refers),
    λ h. record { name = h.2.name; refers = linked.inside (has_part p h.0 h.1) h.2.refers; at = h.2.at },
  )

module _ (count : List ℕ → ℕ) where
  ref_nodes : (name : List ℕ) → nodes count (expr.Ref name) ≡ count name
  ref_nodes name = search (rules, E.the_lemmas)

  shown_nodes : (q : Expr-F Expr) → ((name : List ℕ) → q ≡ shape.Ref name → ⊥) → nodes count (roll-Expr q) ≡ sum_by (nodes count) (parts_in q) + 1
  shown_nodes (shape.Ref name) other = absurd (other name refl)
  shown_nodes (shape.Group parts) other = search (rules, E.the_lemmas) ∙ ap (λ n. n + 1) (sum-map (nodes count) parts)
  shown_nodes (shape.Choice parts) other = search (rules, E.the_lemmas) ∙ ap (λ n. n + 1) (sum-map (nodes count) parts)
  shown_nodes q other = search (rules, E.the_lemmas)

  -- a pattern that is no reference has the nodes of its parts and itself
  pub part_nodes : (p : Expr) → ((name : List ℕ) → p ≡ expr.Ref name → ⊥) → nodes count p ≡ sum_by (nodes count) (parts_in (out-Expr p)) + 1
  part_nodes p other = ap (nodes count) (sym (roll-out-Expr p)) ∙ shown_nodes (out-Expr p) (λ name e. other name (is_ref p name e))

module _ (f h : List ℕ → ℕ) where
  abbrev Alike : Expr → Type 0
  Alike p = ((name : List ℕ) → RefersTo name p → counted (f name) ≡ counted (h name)) → counted (nodes f p) ≡ counted (nodes h p)

  alike_within : (n : ℕ) (p : Expr) → nodes (λ _. 0) p < n → Alike p
  alike_within zero p few same = absurd (omega arith)
  alike_within (suc n) p few same = elim (ref_or_not p) [
    | inl is ↦ rw is.1 (ap counted (ref_nodes f is.0) ∙ same is.0 (rw is.1 linked.here) ∙ ap counted (sym (ref_nodes h is.0)))
    | inr other ↦
        let size = part_nodes (λ _. 0) p other in
        let parts = sum_alike (nodes f) (nodes h) (parts_in (out-Expr p)) (λ part s.
        alike_within n part (omega (arith, sum_above (nodes (λ _. 0)) _ part s)) (λ name r. same name (linked.inside (has_part p part s) r))) in
        omega (arith, part_nodes f p other, part_nodes h p other)
  ]

  -- a pattern counts alike where the names to which it refers do
  pub nodes_alike : (p : Expr) → Alike p
  nodes_alike p = alike_within (suc (nodes (λ _. 0) p)) p (omega arith)

  -- and so does a reference to a define
  pub body_alike : (b : Body) → ((p : Expr) (name : List ℕ) → b ≡ body.Part p → RefersTo name p → counted (f name) ≡ counted (h name)) → counted (body_weight f b) ≡ counted (body_weight h b)
  body_alike (body.Element names attrs content) same = refl
  body_alike (body.Part p) same = nodes_alike p (λ name r. same p name refl r)

  -- and what an `element` has, where all names do
  pub element_alike : ((name : List ℕ) → counted (f name) ≡ counted (h name)) → (b : Body) → counted (element_nodes f b) ≡ counted (element_nodes h b)
  element_alike same (body.Element names attributes.AnyAttributes content) = let inside = nodes_alike content (λ name r. same name) in omega arith
  element_alike same (body.Element names (attributes.Listed rules) content) =
      let inside = nodes_alike content (λ name r. same name) in
      let values = sum_alike (λ (rule : AttrRule). nodes f rule.value) (λ rule. nodes h rule.value) rules (λ rule s. nodes_alike rule.value (λ name r. same name)) in
      omega arith
  element_alike same (body.Part p) = refl

-- in a map an entry is found at its key
pub find_here : {V : Type 0} (es : List (List ℕ × V)) (at : ℕ) (entry : List ℕ × V) → IsTrue (is_sorted text_cmp es) → at < length es → entry ≡ get_or es at entry
    → find text_cmp entry.0 es ≡ Some entry.1
find_here es at entry up within is =
    let after : IsAfter text_cmp entry.0 es at = λ j d l.
    nat_list_cmp_total.antisymm entry.0 (get_or es j d).0
    ∙ ap ordering_reverse (ap (text_cmp (get_or es j d).0) (ap (λ (e : List ℕ × _). e.0) (is ∙ get_or_default es at entry d within)) ∙ rising text_cmp es (as_T _ up) j at d l within) in
    let tied : text_cmp entry.0 (get_or es at entry).0 ≡ Equal = ap (λ (e : List ℕ × _). text_cmp entry.0 e.0) (sym is) ∙ tied_itself nat_list_cmp_total entry.0 in
    find_at text_cmp nat_list_cmp_total entry.0 es at entry within after tied ∙ ap (λ (e : List ℕ × _). Some e.1) (sym is)
