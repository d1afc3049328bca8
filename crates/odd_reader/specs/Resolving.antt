-- The element that a start tag opens: what it declares, whether that may be declared, and its names in the namespaces in force. Private functions
-- of this crate and of the reader speak in these words; which files spell which trees is told in others.
use Rattle.std.specs.Prelude.{◌≡◌, ◌⊎◌, ℕ, Bool, false, ◌&&◌, ◌||◌, not, if◌then◌else◌, List, [], ◌∷◌, ◌++◌, map, Option, Some, None, Result, MatchResult, codes, unwrap_or}
use Rattle.std.specs.Option.{option_map}
use Rattle.std.specs.List.{list_all, list_any}
use Rattle.odd_text.specs.declared.name.Bind.{Bind}
use Rattle.odd_text.specs.declared.name.Name.{Name}
use Rattle.odd_text.specs.Same.{is_same}
use Rattle.odd_tree.specs.Names.{in_force, last_bound, xml_namespace, xmlns_namespace}
use Rattle.odd_reader.specs.declared.misfit.Misfit.{Misfit}
use Rattle.odd_reader.specs.declared.misfit.Misfit.TheVariants as misfit
use Rattle.odd_reader.specs.declared.element.OpenElement.{OpenElement}
use Rattle.odd_tokens.specs.declared.token.WrittenAttr.{WrittenAttr}
use Rattle.odd_tokens.specs.declared.token.WrittenName.{WrittenName}
use Rattle.odd_tokens.specs.declared.token.WrittenTag.{WrittenTag}
use Rattle.odd_tree.specs.declared.tree.Attr.{Attr}
use Rattle.odd_tree.specs.declared.tree.Node.{Node}
use Rattle.odd_tree.specs.declared.tree.Tree.{Tree, roll-Tree}

-- what a call gives: the value; or that there is none, where the tag is misplaced; or there was no memory
abbrev pub Gives : {A : Type 0} → Option A → Result A Misfit → Type 0
Gives made result = MatchResult result (λ x. made ≡ Some x) (λ e. (e ≡ misfit.NoMemory) ⊎ ((e ≡ misfit.Misplaced) × (made ≡ None)))

-- the innermost of the open elements, which stands first, has these children more
abbrev pub with_children : List Node → List OpenElement → List OpenElement
with_children nodes [] = []
with_children nodes (o ∷ os) = record o { children = o.children ++ nodes } ∷ os

-- the declarations around a tag, the outermost first
abbrev pub around : List OpenElement → List Bind
around [] = []
around (o ∷ os) = around os ++ o.binds

-- the prefix that an attribute declares, empty for the default namespace
abbrev pub prefix_declared : WrittenName → Option (List ℕ)
prefix_declared n = if is_same n.prefix (codes "xmlns") then Some n.local
    else (if is_same n.prefix [] && is_same n.local (codes "xmlns") then Some [] else None)

abbrev pub is_declared : WrittenAttr → Bool
is_declared a = is_same a.name.prefix (codes "xmlns") || (is_same a.name.prefix [] && is_same a.name.local (codes "xmlns"))

abbrev pub bind_made : List ℕ → Option (List ℕ) → List Bind
bind_made value None = []
bind_made value (Some prefix) = record { prefix = prefix; ns = value } ∷ []

abbrev pub binds_made : List WrittenAttr → List Bind
binds_made [] = []
binds_made (a ∷ rest) = bind_made a.value (prefix_declared a.name) ++ binds_made rest

abbrev pub unless_declared : WrittenAttr → Option (List ℕ) → List WrittenAttr
unless_declared a None = a ∷ []
unless_declared a (Some prefix) = []

abbrev pub plain_made : List WrittenAttr → List WrittenAttr
plain_made [] = []
plain_made (a ∷ rest) = unless_declared a (prefix_declared a.name) ++ plain_made rest

abbrev pub is_nothing : List ℕ → Bool
is_nothing cs = is_same cs []

abbrev pub may_bind : Bind → Bool
may_bind b = (if is_same b.prefix (codes "xml") then is_same b.ns xml_namespace else not (is_same b.ns xml_namespace))
    && not (is_same b.prefix (codes "xmlns")) && not (is_same b.ns xmlns_namespace) && (is_nothing b.prefix || not (is_nothing b.ns))

abbrev pub some_twice : {A : Type 0} → (A → A → Bool) → List A → Bool
some_twice same [] = false
some_twice same (x ∷ xs) = list_any (same x) xs || some_twice same xs

abbrev pub is_written_same : WrittenName → WrittenName → Bool
is_written_same a b = is_same a.prefix b.prefix && is_same a.local b.local

abbrev pub is_same_name : Name → Name → Bool
is_same_name a b = is_same a.ns b.ns && is_same a.local b.local

abbrev pub named : Option (List ℕ) → List ℕ → Option Name
named ns local = option_map (λ ns. record { ns = ns; local = local }) ns

abbrev pub element_named : List Bind → WrittenName → Option Name
element_named binds n = named (if is_nothing n.prefix then Some (unwrap_or (last_bound binds []) []) else in_force binds n.prefix) n.local

abbrev pub attribute_named : List Bind → WrittenName → Option Name
attribute_named binds n = named (if is_nothing n.prefix then Some [] else in_force binds n.prefix) n.local

abbrev pub with_attribute : Option Name → List ℕ → Option (List Attr) → Option (List Attr)
with_attribute None value rest = None
with_attribute (Some name) value rest = option_map (λ attrs. record { name = name; value = value } ∷ attrs) rest

abbrev pub attributes_named : List Bind → List WrittenAttr → Option (List Attr)
attributes_named binds [] = Some []
attributes_named binds (a ∷ rest) = with_attribute (attribute_named binds a.name) a.value (attributes_named binds rest)

abbrev pub element_with : WrittenTag → Option Name → Option (List Attr) → Option OpenElement
element_with t None attrs = None
element_with t (Some name) None = None
element_with t (Some name) (Some attrs) = if some_twice is_same_name (map (λ a. a.name) attrs) then None
    else Some (record { written = t.name; name = name; attrs = attrs; binds = binds_made t.attrs; children = []; at = t.at })

-- the element of a tag with its names resolved under the bindings of the open elements
abbrev pub resolved : List OpenElement → WrittenTag → Option OpenElement
resolved os t = if list_all may_bind (binds_made t.attrs)
    then element_with t (element_named (around os ++ binds_made t.attrs) t.name) (attributes_named (around os ++ binds_made t.attrs) (plain_made t.attrs))
    else None

abbrev pub tree_of : OpenElement → Tree
tree_of o = roll-Tree (record { name = o.name; attrs = o.attrs; binds = o.binds; children = o.children; at = o.at })
