-- A tree that shows the elements of a content is read as that content, and breaks no rule.
use Rattle.std.proofs.Common.{◌≡◌, ◌<◌, ◌-◌, ℕ, Bool, true, false, if◌then◌else◌, List, [], ◌∷◌, ◌++◌, map, Some, None, refl, sym, ap, ap₂, subst, ◌∙◌, arith}
use Rattle.std.specs.Prelude.{codes, count_by, is_some, unwrap_or}
use Rattle.std.proofs.lemmas.Bool.{both_ways, lt-leb}
use Rattle.std.proofs.lemmas.List.Sums.{count_by-le-length}
use Rattle.std.proofs.lemmas.Option.{same_Some}
use Rattle.odd_text.specs.declared.name.Bind.{Bind}
use Rattle.odd_tokens.specs.Characters.{IsNCName}
use Rattle.odd_tree.specs.Elements.{children_of, given, within}
use Rattle.odd_tree.specs.Markup.{Markup}
use Rattle.odd_tree.specs.declared.tree.Tree.{Tree, out-Tree}
use Rattle.odd_tree.proofs.PrintedTrees.{IsPlain, Shows}
use Rattle.rng_types.specs.Bounds.{IsFormedBounds}
use Rattle.rng_types.specs.declared.bounds.Bounds.{Bounds}
use Rattle.odd_forms.specs.Deep.{left_inside}
use Rattle.odd_forms.specs.Names.{tei, tei_namespace}
use Rattle.odd_forms.specs.Table.{form_at}
use Rattle.odd_forms.specs.Tags.{Tag, tags_in}
use Rattle.odd_forms.specs.Words.{words_of}
use Rattle.odd_forms.specs.declared.element.Element.{Element as Kind}
use Rattle.odd_forms.specs.declared.element.Element.TheVariants as kind
use Rattle.odd_forms.specs.declared.form.Level.TheVariants as level
use Rattle.odd_content.specs.FormedData.{IsFormedData, IsFormedList}
use Rattle.odd_content.proofs.EachPart.{AreParts, IsPart, parts_given}
use Rattle.odd_content.specs.Formed.{AreFormedWithin, IsFormedCondition, IsFormedContent, IsFormedWithin}
use Rattle.odd_content.specs.Giving.{content_of, joined_parts, part_content, part_named, parts_in, value_content}
use Rattle.odd_content.specs.declared.content.Condition.{Condition}
use Rattle.odd_content.specs.declared.content.Content.{Content, Empty, Text, Value, Vals, Element, Class, Macro, Any, Sequence', Alternate', Row_of-Content, end_of-Content, more_of-Content, items-the_row-Content}
use Rattle.odd_content.specs.declared.content.Content.TheVariants as content
use Rattle.odd_emit.specs.Contents.{bounds_said, condition_said, content_markup, is_once, item_markup, key_said, list_markup, part_markup, parts_markup, pick_said, prefixes_of}
use Rattle.odd_emit.specs.Saying.{Said, spoken, spoken_with}
use Rattle.merged_laws.proofs.Fits.{child_called, name_among}
use Rattle.merged_laws.proofs.Items.{item_back, item_named, item_plain, item_sound}
use Rattle.merged_laws.proofs.Often.{bounds_back}
use Rattle.merged_laws.proofs.Parts.{alternate_says, any_says, class_says, condition_back, content_says, element_says, empty_says, except_again, macro_once_says, macro_says, once_back, pick_back, require_words, sequence_says, text_says, words_again}
use Rattle.merged_laws.proofs.Rows.{alternate_is, sequence_is}
use Rattle.merged_laws.proofs.Said.{told}
use Rattle.merged_laws.proofs.Says.{IsPlaced, IsSound, Says, is_level_said, level_tagged, says_plain, says_told, sound, with_plain, with_sound, with_told}
use Rattle.merged_laws.proofs.Told.{AllOf, AreShown, shown_name, tag_said}
use Rattle.merged_laws.proofs.ValueLists.{list_back, list_plain, list_sound}

-- what is shown of the element of a part, where so many levels may still open
pub record IsRead (left : ℕ) (m : Markup) (c : Content) : Type 0 where
  pub plain : IsPlain m
  pub placed : IsPlaced kind.Content left m
  pub is : (around : List Bind) (t : Tree) (made : Content) → Shows tei_namespace [] m t → IsPart around t made → made ≡ c

-- and of the elements of several
pub record AreRead (left : ℕ) (ms : List Markup) (cs : List Content) : Type 0 where
  pub plain : AllOf IsPlain ms
  pub placed : AllOf (IsPlaced kind.Content left) ms
  pub are : (around : List Bind) (ts : List Tree) (made : List Content) → AreShown ms ts → AreParts around ts made → made ≡ cs

-- what a tree gives that is a part of this kind by its name
part_made : (e : Kind) (around : List Bind) (t : Tree) (made : Content) → part_named (out-Tree t).name ≡ Some e → IsPart around t made
    → (parts : List Content) × AreParts (within around t) (children_of t) parts × (made ≡ part_content e (within around t) (out-Tree t).attrs (tags_in t) parts)
part_made e around t made named (IsPart.part {parts = parts} kind is are) =
    (parts, are, ap (λ k. part_content k (within around t) (out-Tree t).attrs (tags_in t) parts) (same_Some _ _ (sym is ∙ named)))

-- a part with nothing in it, by what it says and what that gives
leaf : (e : Kind) (said : List Said) (left : ℕ) (c : Content) → Says e said [] → child_called kind.Content (tei (form_at e).name) ≡ Some e → (form_at e).level ≡ level.Never
    → ((t : Tree) (binds : List Bind) (parts : List Content) → ((local : List ℕ) → given t local ≡ told said local) → part_content e binds (out-Tree t).attrs (tags_in t) parts ≡ c)
    → IsRead left (spoken (form_at e).name said []) c
leaf e said left c says called flat gives = record {
  plain = says_plain e said [] says tt;
  placed = (e, called, sound e left said [] says (λ l none. both_ways _ (ap (λ x. level_tagged x e []) flat) l) tt);
  is = λ around t made shows part.
      let k = says_told e said [] t says shows in
      let m = part_made e around t made (ap part_named k.named ∙ called) part in
      m.2 ∙ gives t (within around t) m.0 k.given;
}

key_is : (t : Tree) (key : List ℕ) → given t (codes "key") ≡ Some key → unwrap_or (given t (codes "key")) [] ≡ key
key_is t key e = ap (λ o. unwrap_or o []) e

-- a reference to a macro, which tells its bounds unless they are once
macro_read : (left : ℕ) (key : List ℕ) (b : Bounds) (once : Bool) → is_once b ≡ once → IsNCName key → IsFormedBounds b
    → IsRead left (spoken (codes "macroRef") (key_said key ∷ (if once then [] else bounds_said b)) []) (content.Macro key b)
macro_read left key b true e n h =
    leaf kind.MacroRef (key_said key ∷ []) left (content.Macro key b) (macro_once_says key n) refl refl
    (λ t binds parts g. ap₂ content.Macro (key_is t key (g (codes "key"))) (once_back t b e (g (codes "minOccurs")) (g (codes "maxOccurs"))))
macro_read left key b false e n h =
    leaf kind.MacroRef (key_said key ∷ bounds_said b) left (content.Macro key b) (macro_says key b n h) refl refl
    (λ t binds parts g. ap₂ content.Macro (key_is t key (g (codes "key"))) (bounds_back t b h (g (codes "minOccurs")) (g (codes "maxOccurs"))))

class_read : (left : ℕ) (key : List ℕ) (p : _) (b : Bounds) → IsFormedWithin left (content.Class key p b) → IsRead left (spoken (codes "classRef") (key_said key ∷ pick_said p ++ bounds_said b) []) (content.Class key p b)
class_read left key p b f =
    leaf kind.ClassRef (key_said key ∷ pick_said p ++ bounds_said b) left (content.Class key p b) (class_says key p b f.0 f.1 f.2) refl refl
    (λ t binds parts g.
    let keys = key_is t key (g (codes "key")) in
    let picks = pick_back t p f.1 (g (codes "include")) (g (codes "except")) in
    let bounds = bounds_back t b f.2 (g (codes "minOccurs")) (g (codes "maxOccurs")) in
    λ i. content.Class (keys i) (picks i) (bounds i))

any_read : (left : ℕ) (c : Condition) (b : Bounds) → IsFormedCondition c → IsFormedBounds b → IsRead left (spoken_with (codes "anyElement") (prefixes_of c) (condition_said c ++ bounds_said b)) (content.Any c b)
any_read left c b k h =
    let said = condition_said c ++ bounds_said b in
    let says = any_says c b k h in
    record {
      plain = with_plain kind.AnyElement (prefixes_of c) said says;
      placed = (kind.AnyElement, refl, with_sound kind.AnyElement (prefixes_of c) said says left refl);
      is = λ around t made shows part.
          let told = with_told kind.AnyElement (prefixes_of c) said says t shows in
          let m = part_made kind.AnyElement around t made (ap part_named told.named) part in
          let require = ap (λ o. words_of (unwrap_or o [])) (told.given (codes "require")) ∙ words_again c.require (require_words c.require k.require) in
          let except = ap (λ o. words_of (unwrap_or o [])) (told.given (codes "except")) ∙ except_again c k in
          let bounds = bounds_back t b h (told.given (codes "minOccurs")) (told.given (codes "maxOccurs")) in
          m.2 ∙ ap (λ bs. part_content kind.AnyElement (around ++ bs) (out-Tree t).attrs (tags_in t) m.0) shows.2 ∙ ap₂ content.Any (condition_back c k around _ _ require except) bounds;
    }

-- an item, and a list of values
value_read : (left : ℕ) (i : _) → IsFormedData i → IsRead left (item_markup i) (content.Value i)
value_read left i f =
    let called = ap (λ n. child_called kind.Content (tei n)) (item_named i) in
    record {
      plain = item_plain i f;
      placed = (kind.DataRef, called, item_sound left i f);
      is = λ around t made shows part. (part_made kind.DataRef around t made (ap part_named (shown_name (item_markup i) t shows) ∙ called) part).2 ∙ ap value_content (item_back i t f shows);
    }

vals_read : (left : ℕ) (l : _) → IsFormedList l → IsRead left (list_markup l) (content.Vals l)
vals_read left l f = record {
  plain = list_plain l f;
  placed = (kind.ValList, refl, list_sound l f left);
  is = λ around t made shows part. (part_made kind.ValList around t made (ap part_named (shown_name (list_markup l) t shows)) part).2 ∙ ap content.Vals (list_back l t f shows);
}

-- no parts, and one more
none_read : (left : ℕ) → AreRead left [] []
none_read left = record { plain = tt; placed = tt; are = none }
  where
    none : (around : List Bind) (ts : List Tree) (made : List Content) → AreShown [] ts → AreParts around ts made → made ≡ []
    none around [] made s AreParts.nothing = refl
    none around (t ∷ ts) made s p = absurd s

more_read : (left : ℕ) (m : Markup) (ms : List Markup) (c : Content) (cs : List Content) → IsRead left m c → AreRead left ms cs → AreRead left (m ∷ ms) (c ∷ cs)
more_read left m ms c cs first rest = record { plain = (first.plain, rest.plain); placed = (first.placed, rest.placed); are = more }
  where
    more : (around : List Bind) (ts : List Tree) (made : List Content) → AreShown (m ∷ ms) ts → AreParts around ts made → made ≡ c ∷ cs
    more around [] made s p = absurd s
    more around (t ∷ ts) made s (AreParts.other unnamed later) =
        let never : None ≡ Some first.placed.0 = sym unnamed ∙ ap part_named (shown_name m t s.0) ∙ first.placed.1 in cc
    more around (t ∷ ts) made s (AreParts.more {c = one} {cs = others} given later) = ap₂ (λ x xs. x ∷ xs) (first.is around t one s.0 given) (rest.are around ts others s.1 later)

-- a level, with parts that are read
sequence_read : (left : ℕ) (shape : _) (row : Row_of-Content _) (b : Bounds) → 0 < left → IsFormedBounds b → AreRead (left - 1) (parts_markup row) (items-the_row-Content _ row)
    → IsRead left (spoken (codes "sequence") (bounds_said b) (parts_markup row)) (Sequence' shape row b)
sequence_read left shape row b some h inner =
    let ms = parts_markup row in
    let says = sequence_says b ms h in
    record {
      plain = says_plain kind.Sequence (bounds_said b) ms says inner.plain;
      placed = (kind.Sequence, refl, sound kind.Sequence left (bounds_said b) ms says (λ l none. omega (arith, some, none)) inner.placed);
      is = λ around t made shows part.
          let k = says_told kind.Sequence (bounds_said b) ms t says shows in
          let m = part_made kind.Sequence around t made (ap part_named k.named) part in
          let parts = inner.are (within around t) (children_of t) m.0 k.children m.1 in
          m.2 ∙ ap₂ content.Sequence parts (bounds_back t b h (k.given (codes "minOccurs")) (k.given (codes "maxOccurs"))) ∙ sequence_is shape row b;
    }

alternate_read : (left : ℕ) (shape : _) (row : Row_of-Content _) (b : Bounds) → 0 < left → IsFormedBounds b → AreRead (left - 1) (parts_markup row) (items-the_row-Content _ row)
    → IsRead left (spoken (codes "alternate") (bounds_said b) (parts_markup row)) (Alternate' shape row b)
alternate_read left shape row b some h inner =
    let ms = parts_markup row in
    let says = alternate_says b ms h in
    record {
      plain = says_plain kind.Alternate (bounds_said b) ms says inner.plain;
      placed = (kind.Alternate, refl, sound kind.Alternate left (bounds_said b) ms says (λ l none. omega (arith, some, none)) inner.placed);
      is = λ around t made shows part.
          let k = says_told kind.Alternate (bounds_said b) ms t says shows in
          let m = part_made kind.Alternate around t made (ap part_named k.named) part in
          let parts = inner.are (within around t) (children_of t) m.0 k.children m.1 in
          m.2 ∙ ap₂ content.Alternate parts (bounds_back t b h (k.given (codes "minOccurs")) (k.given (codes "maxOccurs"))) ∙ alternate_is shape row b;
    }

mutual
  -- each part is read
  pub part_read : (left : ℕ) (c : Content) → IsFormedWithin left c → IsRead left (part_markup c) c
  part_read left Empty f = leaf kind.Empty [] left content.Empty empty_says refl refl (λ t binds parts g. refl)
  part_read left Text f = leaf kind.TextNode [] left content.Text text_says refl refl (λ t binds parts g. refl)
  part_read left (Value item) f = value_read left item f
  part_read left (Vals values) f = vals_read left values f
  part_read left (Element key b) f =
      leaf kind.ElementRef (key_said key ∷ bounds_said b) left (content.Element key b) (element_says key b f.0 f.1) refl refl
      (λ t binds parts g. ap₂ content.Element (key_is t key (g (codes "key"))) (bounds_back t b f.1 (g (codes "minOccurs")) (g (codes "maxOccurs"))))
  part_read left (Class key p b) f = class_read left key p b f
  part_read left (Macro key b) f = macro_read left key b (is_once b) refl f.0 f.1
  part_read left (Any c b) f = any_read left c b f.0 f.1
  part_read left (Sequence' shape parts b) f = sequence_read left shape parts b f.0 f.2 (parts_read (left - 1) parts f.1)
  part_read left (Alternate' shape parts b) f = alternate_read left shape parts b f.0 f.2 (parts_read (left - 1) parts f.1)

  pub parts_read : {n : _} (left : ℕ) (parts : Row_of-Content n) → AreFormedWithin left parts → AreRead left (parts_markup parts) (items-the_row-Content n parts)
  parts_read left end_of-Content f = none_read left
  parts_read left (more_of-Content part parts) f =
      more_read left (part_markup part) (parts_markup parts) part (items-the_row-Content _ parts) (part_read left part f.0) (parts_read left parts f.1)

-- one part is no level
pub one_no_level : (e : Kind) (m : Markup) → level_tagged level.OfSeveral e (map tag_said (m ∷ [])) ≡ false
one_no_level e m =
    let kinds = (form_at e).many ++ (form_at e).once in
    let test : Tag → Bool = λ tag. is_some (name_among kinds tag.name) in
    let tags = tag_said m ∷ [] in
    lt-leb 2 (count_by test tags) (omega (arith, count_by-le-length test tags))

-- A `content` that is printed of a formed content
module _ (c : Content) (f : IsFormedContent c) where
  -- is plain
  pub content_plain : IsPlain (content_markup c)
  content_plain = says_plain kind.Content [] (part_markup c ∷ []) (content_says (part_markup c ∷ [])) ((part_read 60 c f).plain, tt)

  -- breaks nothing, under any declarations around it
  pub content_sound : IsSound kind.Content 60 (content_markup c)
  content_sound =
      let ms = part_markup c ∷ [] in
      let flat : is_level_said kind.Content ms ≡ false = one_no_level kind.Content (part_markup c) in
      sound kind.Content 60 [] ms (content_says ms) (λ l none. both_ways _ flat l) (subst (λ b. AllOf (IsPlaced kind.Content (left_inside b 60)) ms) (sym flat) ((part_read 60 c f).placed, tt))

  -- and is read as the content
  pub content_back : (around : List Bind) (t : Tree) → Shows tei_namespace [] (content_markup c) t → content_of around t ≡ c
  content_back around t shows =
      let ms = part_markup c ∷ [] in
      let k = says_told kind.Content [] ms t (content_says ms) shows in
      let one = more_read 60 (part_markup c) [] c [] (part_read 60 c f) (none_read 60) in
      ap joined_parts (one.are (within around t) (children_of t) (parts_in (within around t) (out-Tree t).children) k.children (parts_given around t))
