-- Which names are of a name class: small cases on both sides.
use Rattle.std.proofs.Common.{ℕ, List, [], ◌∷◌, refl, sym, ap, subst, ◌∙◌, codes}
use Rattle.odd_text.specs.declared.name.Name.{Name}
use Rattle.odd_text.proofs.InList.{only_item, stands_first}
use Rattle.odd_text.specs.Standing.{StandsIn}
use Rattle.odd_tree.proofs.PrintedTrees.{apart}
use Rattle.rng_grammar.specs.Acceptance.{IsInClass}
use Rattle.rng_grammar.specs.declared.grammar.NameClass.TheVariants as class
use Rattle.rng_grammar.specs.declared.grammar.NameClass.{NameClass}
use Rattle.rng_grammar.specs.declared.grammar.NsPart.{NsPart}

abbrev in_x : List ℕ → Name
in_x local = record { ns = codes "urn:x"; local = local }

abbrev pub in_none : List ℕ → Name
in_none local = record { ns = []; local = local }

one_in : IsInClass (class.One (in_x (codes "a"))) (in_x (codes "a"))
one_in = refl

one_out : IsInClass (class.One (in_x (codes "a"))) (in_none (codes "a")) → ⊥
one_out e = apart [] (codes "urn:x") refl (ap (λ (n : Name). n.ns) e)

-- all but those in one namespace, and one name more
abbrev any_but : NameClass
any_but = class.AnyBut (codes "urn:x" ∷ []) (in_none (codes "a") ∷ [])

any_in : IsInClass any_but (in_none (codes "b"))
any_in = (λ s. apart [] (codes "urn:x") refl (only_item _ _ s), λ s. apart (codes "b") (codes "a") refl (ap (λ (n : Name). n.local) (only_item _ _ s)))

any_out_by_namespace : IsInClass any_but (in_x (codes "b")) → ⊥
any_out_by_namespace h = h.0 (stands_first _ _)

any_out_by_name : IsInClass any_but (in_none (codes "a")) → ⊥
any_out_by_name h = h.1 (stands_first _ _)

-- those in one namespace but one
abbrev x_but_a : NsPart
x_but_a = record { ns = codes "urn:x"; but = in_x (codes "a") ∷ [] }

within_in : IsInClass (class.Within (x_but_a ∷ [])) (in_x (codes "b"))
within_in = (x_but_a, stands_first _ _, refl, λ s. apart (codes "b") (codes "a") refl (ap (λ (n : Name). n.local) (only_item _ _ s)))

within_out_by_namespace : IsInClass (class.Within (x_but_a ∷ [])) (in_none (codes "b")) → ⊥
within_out_by_namespace h = apart [] (codes "urn:x") refl (h.2 ∙ ap (λ (p : NsPart). p.ns) (only_item _ _ h.1))

within_out_by_name : IsInClass (class.Within (x_but_a ∷ [])) (in_x (codes "a")) → ⊥
within_out_by_name h = h.3 (subst (λ (p : NsPart). StandsIn p.but (in_x (codes "a"))) (sym (only_item _ _ h.1)) (stands_first _ _))
