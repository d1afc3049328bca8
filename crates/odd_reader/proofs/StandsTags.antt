-- A tag is resolved exactly where its names fit.
use Rattle.std.proofs.Common.{◌≡◌, Bool, true, false, if◌then◌else◌, ℕ, List, [], ◌++◌, map, Option, Some, None, refl, sym, ap, ap₂, ◌∙◌, subst}
use Rattle.std.specs.List.{list_all}
use Rattle.odd_text.specs.declared.name.Bind.{Bind}
use Rattle.odd_text.specs.declared.name.Name.{Name}
use Rattle.odd_tree.specs.declared.tree.Attr.{Attr}
use Rattle.odd_reader.specs.declared.element.OpenElement.{OpenElement}
use Rattle.odd_tokens.specs.declared.token.WrittenTag.{WrittenTag}
use Rattle.odd_reader.specs.Resolving.{around, binds_made, plain_made, may_bind, element_named, attributes_named, some_twice, is_same_name, resolved, tree_of}
use Rattle.odd_tokens.specs.Making.{name_made, attribute_made, tag_made}
use Rattle.odd_tree.specs.Names.{binds_of, plain_attributes, element_name, attribute_read, NamesFit}
use Rattle.odd_tokens.specs.Tokens.{Tag, NoneTwice}
use Rattle.odd_tree.specs.Trees.{HasTag}
use Rattle.odd_reader.proofs.TwoAlike.{names_once, once_names}
use Rattle.odd_reader.proofs.StandsNames.{binds_are, plain_are, element_is, attributes_are, all_named, bindings_from, all_may_bind, AreNamed, some_name, each_named}

-- the open element is of the tag, which begins at the byte
pub record IsOpen (here : List Bind) (at : ℕ) (tag : Tag) (o : OpenElement) : Type 0 where
  pub written : o.written ≡ name_made tag.name
  pub named : element_name (here ++ binds_of tag.attributes) tag.name ≡ Some o.name
  pub attributed : map (attribute_read (here ++ binds_of tag.attributes)) (plain_attributes tag.attributes) ≡ map (λ a. Some a) o.attrs
  pub bound : o.binds ≡ binds_of tag.attributes
  pub placed : o.at ≡ at

pub has_tag : {here : List Bind} {at : ℕ} {tag : Tag} {o : OpenElement} → IsOpen here at tag o → HasTag here at tag (tree_of o)
has_tag h = record { named = h.named; attributed = h.attributed; bound = h.bound; placed = h.placed }

-- with other children
pub still_open : {here : List Bind} {at : ℕ} {tag : Tag} {o : OpenElement} (children : _) → IsOpen here at tag o → IsOpen here at tag (record o { children = children })
still_open children h = record { written = h.written; named = h.named; attributed = h.attributed; bound = h.bound; placed = h.placed }

-- the parts of what is resolved

abbrev element_with : WrittenTag → Option Name → Option (List Attr) → Option OpenElement
element_with t None attrs = None
element_with t (Some name) None = None
element_with t (Some name) (Some attrs) = if some_twice is_same_name (map (λ (a : Attr). a.name) attrs) then None
    else Some (record { written = t.name; name = name; attrs = attrs; binds = binds_made t.attrs; children = []; at = t.at })

pub record Parts (t : WrittenTag) (n : Option Name) (r : Option (List Attr)) (o : OpenElement) : Type 0 where
  pub named : n ≡ Some o.name
  pub attributed : r ≡ Some o.attrs
  pub once : some_twice is_same_name (map (λ (a : Attr). a.name) o.attrs) ≡ false
  pub written : o.written ≡ t.name
  pub bound : o.binds ≡ binds_made t.attrs
  pub placed : o.at ≡ t.at
  pub fresh : o.children ≡ []

parts_of : (t : WrittenTag) (n : Option Name) (r : Option (List Attr)) (o : OpenElement) → element_with t n r ≡ Some o → Parts t n r o
parts_of t None r o e = cc
parts_of t (Some name) None o e = cc
parts_of t (Some name) (Some attrs) o e = go (some_twice is_same_name (map (λ (a : Attr). a.name) attrs)) refl e
  where
    made : OpenElement
    made = record { written = t.name; name = name; attrs = attrs; binds = binds_made t.attrs; children = []; at = t.at }

    go : (b : Bool) → some_twice is_same_name (map (λ (a : Attr). a.name) attrs) ≡ b → (if b then None else Some made) ≡ Some o → Parts t (Some name) (Some attrs) o
    go true h k = cc
    go false h k =
        let same : made ≡ o = cc k in
        subst (Parts t (Some name) (Some attrs)) same (record { named = refl; attributed = refl; once = h; written = refl; bound = refl; placed = refl; fresh = refl })

all_then : (b : Bool) (x : Option OpenElement) (o : OpenElement) → (if b then x else None) ≡ Some o → (b ≡ true) × (x ≡ Some o)
all_then true x o e = (refl, e)
all_then false x o e = cc

pub record Resolved (here : List Bind) (at : ℕ) (tag : Tag) (o : OpenElement) : Type 0 where
  pub fit : NamesFit here tag
  pub is_open : IsOpen here at tag o
  pub fresh : o.children ≡ []

-- what is resolved fits
pub resolved_fits : (os : List OpenElement) (at : ℕ) (tag : Tag) (o : OpenElement) → resolved os (tag_made at tag) ≡ Some o → Resolved (around os) at tag o
resolved_fits os at tag o e = go (all_then _ _ o e)
  where
    here : List Bind
    here = around os ++ binds_of tag.attributes

    made : WrittenTag
    made = tag_made at tag

    binds : binds_made made.attrs ≡ binds_of tag.attributes
    binds = binds_are tag.attributes

    go : (list_all may_bind (binds_made made.attrs) ≡ true)
        × (element_with made (element_named (around os ++ binds_made made.attrs) made.name) (attributes_named (around os ++ binds_made made.attrs) (plain_made made.attrs)) ≡ Some o)
        → Resolved (around os) at tag o
    go (all, f) =
        let p = parts_of made _ _ o f in
        let named : element_name here tag.name ≡ Some o.name = sym (element_is here tag.name) ∙ ap (λ bs. element_named (around os ++ bs) (name_made tag.name)) (sym binds) ∙ p.named in
        let attributed : AreNamed here (plain_attributes tag.attributes) o.attrs = attributes_are here (plain_attributes tag.attributes) o.attrs
        (ap₂ (λ bs xs. attributes_named (around os ++ bs) xs) (sym binds) (sym (plain_are tag.attributes)) ∙ p.attributed) in
        record {
          fit = record {
            declared = bindings_from _ (subst (λ bs. list_all may_bind bs ≡ true) binds all);
            named = rw named refl;
            attributed = each_named here (plain_attributes tag.attributes) _ attributed.names;
            once = subst NoneTwice (sym attributed.names) (names_once _ p.once);
          };
          is_open = record { written = p.written; named = named; attributed = attributed.read; bound = p.bound ∙ binds; placed = p.placed };
          fresh = p.fresh;
        }

fits_all : (b : Bool) (x : Option OpenElement) (o : OpenElement) → b ≡ true → x ≡ Some o → (if b then x else None) ≡ Some o
fits_all true x o h e = e
fits_all false x o h e = cc

with_all : (t : WrittenTag) (n : Option Name) (r : Option (List Attr)) (name : Name) (attrs : List Attr) → n ≡ Some name → r ≡ Some attrs
    → some_twice is_same_name (map (λ (a : Attr). a.name) attrs) ≡ false
    → element_with t n r ≡ Some (record { written = t.name; name = name; attrs = attrs; binds = binds_made t.attrs; children = []; at = t.at })
with_all t n r name attrs e f h = rw (e, f, h) refl

-- what fits is resolved
pub fits_resolved : (os : List OpenElement) (at : ℕ) (tag : Tag) → NamesFit (around os) tag → (o : OpenElement) × (resolved os (tag_made at tag) ≡ Some o)
fits_resolved os at tag f = (_, fits_all _ _ _ (rw binds (all_may_bind _ f.declared)) (with_all made _ _ named.0 attributed.0 name_is attrs_are once))
  where
    here : List Bind
    here = around os ++ binds_of tag.attributes

    made : WrittenTag
    made = tag_made at tag

    binds : binds_made made.attrs ≡ binds_of tag.attributes
    binds = binds_are tag.attributes

    named : (n : Name) × (element_name here tag.name ≡ Some n)
    named = some_name (element_name here tag.name) f.named

    name_is : element_named (around os ++ binds_made made.attrs) made.name ≡ Some named.0
    name_is = ap (λ bs. element_named (around os ++ bs) (name_made tag.name)) binds ∙ element_is here tag.name ∙ named.1

    attributed : (attrs : List Attr) × (attributes_named here (map attribute_made (plain_attributes tag.attributes)) ≡ Some attrs)
    attributed = all_named here (plain_attributes tag.attributes) f.attributed

    attrs_are : attributes_named (around os ++ binds_made made.attrs) (plain_made made.attrs) ≡ Some attributed.0
    attrs_are = ap₂ (λ bs xs. attributes_named (around os ++ bs) xs) binds (plain_are tag.attributes) ∙ attributed.1

    once : some_twice is_same_name (map (λ (a : Attr). a.name) attributed.0) ≡ false
    once = once_names _ (subst NoneTwice (attributes_are here (plain_attributes tag.attributes) attributed.0 attributed.1).names f.once)
