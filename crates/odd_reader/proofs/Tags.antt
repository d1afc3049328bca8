-- What a tag declares, its attributes with names resolved, and its element among the open ones.
use Rattle.std.proofs.Common.{◌≡◌, List, [], ◌∷◌, ◌++◌, refl, sym, ap, ◌∙◌, ℕ, suc, ◌-◌, ◌<◌, length, get_or, take, arith, ◌⊎◌, true, false, subst, map, inl, inr, ⊎_elim}
use Rattle.std.proofs.Math.ListN.{set, length-set}
use Rattle.std.proofs.Math.Seq.{take-suc, take-suc-set}
use Rattle.std.proofs.lemmas.List.{append-nil, append_assoc, take_all, reverse-append}
use Rattle.std.specs.List.{list_all}
use Rattle.std.specs.Prelude.{Some, None, reverse, Option, Result, Err, if◌then◌else◌}
use Rattle.odd_text.specs.declared.name.Bind.{Bind}
use Rattle.odd_text.specs.declared.name.Name.{Name}
use Rattle.odd_tokens.specs.declared.token.WrittenAttr.{WrittenAttr}
use Rattle.odd_tokens.specs.declared.token.WrittenTag.{WrittenTag}
use Rattle.odd_tree.proofs.LastBound.{last_bound_none, last_bound_some}
use Rattle.odd_tree.specs.Names.{last_bound}
use Rattle.odd_tree.specs.declared.tree.Attr.{Attr}
use Rattle.odd_tree.specs.declared.tree.Node.{Node}
use Rattle.odd_reader.specs.Resolving.{bind_made, binds_made, plain_made, prefix_declared, unless_declared, with_children, around, Gives, attribute_named, attributes_named, element_named, element_with, is_same_name, may_bind, resolved, some_twice, with_attribute}
use Rattle.odd_reader.specs.declared.element.OpenElement.{OpenElement}
use Rattle.odd_reader.specs.declared.misfit.Misfit.{Misfit}
use Rattle.odd_reader.specs.declared.misfit.Misfit.TheVariants as misfit

binds_append : (some more : List WrittenAttr) → binds_made (some ++ more) ≡ binds_made some ++ binds_made more
binds_append [] more = refl
binds_append (a ∷ rest) more =
    let b = bind_made a.value (prefix_declared a.name) in ap (λ l. b ++ l) (binds_append rest more) ∙ sym (append_assoc b (binds_made rest) (binds_made more))

plain_append : (some more : List WrittenAttr) → plain_made (some ++ more) ≡ plain_made some ++ plain_made more
plain_append [] more = refl
plain_append (a ∷ rest) more =
    let b = unless_declared a (prefix_declared a.name) in ap (λ l. b ++ l) (plain_append rest more) ∙ sym (append_assoc b (plain_made rest) (plain_made more))

-- one declaration more
pub declared_more : (some : List WrittenAttr) (a : WrittenAttr) (b : Bind) → prefix_declared a.name ≡ Some b.prefix → b.ns ≡ a.value
    → (binds_made some ++ b ∷ [] ≡ binds_made (some ++ a ∷ [])) × (plain_made some ≡ plain_made (some ++ a ∷ []))
declared_more some a b e n = (
  sym (binds_append some (a ∷ []) ∙ ap (λ p. binds_made some ++ (bind_made a.value p ++ [])) e
      ∙ ap (λ v. binds_made some ++ record { prefix = b.prefix; ns = v } ∷ []) (sym n)),
  sym (plain_append some (a ∷ []) ∙ ap (λ p. plain_made some ++ (unless_declared a p ++ [])) e ∙ append-nil (plain_made some)),
)

-- one attribute more that declares nothing
pub plain_more : (some : List WrittenAttr) (a : WrittenAttr) → prefix_declared a.name ≡ None
    → (binds_made some ≡ binds_made (some ++ a ∷ [])) × (plain_made some ++ a ∷ [] ≡ plain_made (some ++ a ∷ []))
plain_more some a e = (
  sym (binds_append some (a ∷ []) ∙ ap (λ p. binds_made some ++ (bind_made a.value p ++ [])) e ∙ append-nil (binds_made some)),
  sym (plain_append some (a ∷ []) ∙ ap (λ p. plain_made some ++ (unless_declared a p ++ [])) e),
)

-- the innermost element, which is the last of the builder's list, has one more child
pub last_grown : (xs : List OpenElement) (n : ℕ) (o : OpenElement) (children : List Node) (node : Node) → n ≡ length xs - 1 → 0 < length xs → o ≡ get_or xs n o
    → children ≡ o.children ++ node ∷ [] → reverse (set xs n (record o { children = children })) ≡ with_children (node ∷ []) (reverse xs)
last_grown xs n o children node last some same grown =
    let w : OpenElement = record o { children = children } in
    let lt : n < length xs = omega arith in
    let old : xs ≡ take n xs ++ o ∷ [] = sym (take_all (suc n) xs (omega arith)) ∙ take-suc xs n o lt ∙ ap (λ x. take n xs ++ x ∷ []) (sym same) in
    let new : set xs n w ≡ take n xs ++ w ∷ [] = sym (take_all (suc n) (set xs n w) (omega (arith, length-set xs n w))) ∙ take-suc-set xs n w lt in
    ap reverse new ∙ reverse-append (take n xs) (w ∷ []) ∙ ap (λ cs. record o { children = cs } ∷ reverse (take n xs)) grown
    ∙ sym (ap (λ l. with_children (node ∷ []) (reverse l)) old ∙ ap (λ l. with_children (node ∷ []) l) (reverse-append (take n xs) (o ∷ [])))

around_last : (some all : List OpenElement) (o : OpenElement) → all ≡ some ++ o ∷ [] → around (reverse all) ≡ around (reverse some) ++ o.binds
around_last some all o e = ap (λ l. around (reverse l)) e ∙ ap around (reverse-append some (o ∷ []))

-- the innermost open element binds the prefix
pub bound_innermost : (some all : List OpenElement) (o : OpenElement) (prefix ns : List ℕ) → all ≡ some ++ o ∷ [] → last_bound o.binds prefix ≡ Some ns
    → last_bound (around (reverse all)) prefix ≡ Some ns
bound_innermost some all o prefix ns e h = ap (λ l. last_bound l prefix) (around_last some all o e) ∙ last_bound_some (around (reverse some)) o.binds prefix ns h

-- it does not
pub bound_further_out : (some all : List OpenElement) (o : OpenElement) (prefix : List ℕ) → all ≡ some ++ o ∷ [] → last_bound o.binds prefix ≡ None
    → last_bound (around (reverse all)) prefix ≡ last_bound (around (reverse some)) prefix
bound_further_out some all o prefix e h = ap (λ l. last_bound l prefix) (around_last some all o e) ∙ last_bound_none (around (reverse some)) o.binds prefix h

abbrev joined : Option (List Attr) → Option (List Attr) → Option (List Attr)
joined None more = None
joined (Some some) None = None
joined (Some some) (Some more) = Some (some ++ more)

joined_nothing : (more : Option (List Attr)) → more ≡ joined (Some []) more
joined_nothing None = refl
joined_nothing (Some more) = refl

with_joined : (name : Option Name) (value : List ℕ) (some more : Option (List Attr))
    → with_attribute name value (joined some more) ≡ joined (with_attribute name value some) more
with_joined None value some more = refl
with_joined (Some name) value None more = refl
with_joined (Some name) value (Some some) None = refl
with_joined (Some name) value (Some some) (Some more) = refl

attributes_append : (binds : List Bind) (some more : List WrittenAttr)
    → attributes_named binds (some ++ more) ≡ joined (attributes_named binds some) (attributes_named binds more)
attributes_append binds [] more = joined_nothing (attributes_named binds more)
attributes_append binds (a ∷ rest) more =
    ap (with_attribute (attribute_named binds a.name) a.value) (attributes_append binds rest more)
    ∙ with_joined (attribute_named binds a.name) a.value (attributes_named binds rest) (attributes_named binds more)

-- one attribute more
pub attributes_more : (binds : List Bind) (some : List WrittenAttr) (a : WrittenAttr) (attrs : List Attr) (name : Name) → attributes_named binds some ≡ Some attrs
    → attribute_named binds a.name ≡ Some name → attributes_named binds (some ++ a ∷ []) ≡ Some (attrs ++ record { name = name; value = a.value } ∷ [])
attributes_more binds some a attrs name e n =
    attributes_append binds some (a ∷ []) ∙ ap (λ s. joined s (attributes_named binds (a ∷ []))) e
    ∙ ap (λ m. joined (Some attrs) (with_attribute m a.value (Some []))) n

joined_none : (some : Option (List Attr)) → joined some None ≡ None
joined_none None = refl
joined_none (Some some) = refl

-- an attribute whose prefix is not in force
pub attributes_stop : (binds : List Bind) (some : List WrittenAttr) (a : WrittenAttr) (rest : List WrittenAttr) → attribute_named binds a.name ≡ None
    → attributes_named binds (some ++ a ∷ rest) ≡ None
attributes_stop binds some a rest e =
    attributes_append binds some (a ∷ rest) ∙ ap (λ n. joined (attributes_named binds some) (with_attribute n a.value (attributes_named binds rest))) e
    ∙ joined_none (attributes_named binds some)

-- a part that fails, and the whole that then is not there
pub gives_none : {A B : Type 0} (part : Option A) (whole : Option B) (result : Result B Misfit) (e : Misfit) → result ≡ Err e
    → (e ≡ misfit.NoMemory) ⊎ ((e ≡ misfit.Misplaced) × (part ≡ None)) → (part ≡ None → whole ≡ None) → Gives whole result
gives_none part whole result e is why none = subst (λ r. Gives whole r) (sym is) (⊎_elim (λ m. inl m) (λ h. inr (h.0, none h.1)) why)

from_parts : (os : List OpenElement) (t : WrittenTag) (name : Name) (attrs : List Attr) → list_all may_bind (binds_made t.attrs) ≡ true
    → element_named (around os ++ binds_made t.attrs) t.name ≡ Some name → attributes_named (around os ++ binds_made t.attrs) (plain_made t.attrs) ≡ Some attrs
    → some_twice is_same_name (map (λ a. a.name) attrs) ≡ false
    → resolved os t ≡ Some (record { written = t.name; name = name; attrs = attrs; binds = binds_made t.attrs; children = []; at = t.at })
from_parts os t name attrs all n a once =
    let binds = around os ++ binds_made t.attrs in
    let made : OpenElement = record { written = t.name; name = name; attrs = attrs; binds = binds_made t.attrs; children = []; at = t.at } in
    ap (λ b. if b then element_with t (element_named binds t.name) (attributes_named binds (plain_made t.attrs)) else None) all
    ∙ ap (λ m. element_with t m (attributes_named binds (plain_made t.attrs))) n ∙ ap (λ m. element_with t (Some name) m) a
    ∙ ap (λ b. if b then None else Some made) once

-- the element, from what each part of the builder found
pub element_resolved : (os : List OpenElement) (t : WrittenTag) (binds : List Bind) (plain : List WrittenAttr) (name : Name) (attrs : List Attr)
    → binds ≡ binds_made t.attrs → plain ≡ plain_made t.attrs → list_all may_bind binds ≡ true
    → element_named (around os ++ binds) t.name ≡ Some name → attributes_named (around os ++ binds) plain ≡ Some attrs
    → some_twice is_same_name (map (λ a. a.name) attrs) ≡ false
    → resolved os t ≡ Some (record { written = t.name; name = name; attrs = attrs; binds = binds; children = []; at = t.at })
element_resolved os t binds plain name attrs b p all n a once =
    from_parts os t name attrs (sym (ap (list_all may_bind) b) ∙ all) (sym (ap (λ l. element_named (around os ++ l) t.name) b) ∙ n)
    (sym (ap (λ l. attributes_named (around os ++ l) plain) b ∙ ap (attributes_named (around os ++ binds_made t.attrs)) p) ∙ a) once
    ∙ ap (λ l. Some (record { written = t.name; name = name; attrs = attrs; binds = l; children = []; at = t.at })) (sym b)
