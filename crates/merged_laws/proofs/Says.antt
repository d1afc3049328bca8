-- An element that says what fits its form: its tag is one of XML, and a tree that shows it breaks nothing, where its children break nothing.
use Rattle.std.proofs.Common.{◌≡◌, ℕ, Bool, true, false, List, [], ◌∷◌, ◌++◌, map, Option, Some, None, refl, sym, ap, subst, ◌∙◌}
use Rattle.std.specs.Prelude.{is_some, nat_le}
use Rattle.std.specs.List.{list_all}
use Rattle.std.proofs.lemmas.Bool.{and_parts, both_ways}
use Rattle.std.proofs.lemmas.Option.{same_Some}
use Rattle.odd_text.specs.declared.name.Bind.{Bind}
use Rattle.odd_tokens.proofs.Ascii.{is_ascii_name}
use Rattle.odd_text.specs.Standing.{StandsIn}
use Rattle.odd_tree.specs.Elements.{children_of, within}
use Rattle.odd_tree.specs.Markup.{Markup, Pair, all_of}
use Rattle.odd_tree.specs.declared.tree.Tree.{Tree}
use Rattle.odd_text.proofs.InList.{nothing_stands}
use Rattle.odd_tree.proofs.PrintedTrees.{ArePlain, ArePlainPrefixes, IsPlain, IsPlainTag, Shows, bind_of}
use Rattle.odd_forms.specs.Children.{IsChild}
use Rattle.odd_forms.specs.Deep.{DeepFault, left_inside, level_by}
use Rattle.odd_forms.specs.Faults.{FormFault}
use Rattle.odd_forms.specs.Names.{tei, tei_namespace}
use Rattle.odd_forms.specs.Table.{form_at}
use Rattle.odd_forms.specs.Tags.{Tag, tags_in}
use Rattle.odd_forms.specs.declared.element.Element.{Element}
use Rattle.odd_forms.specs.declared.element.Element.TheVariants as elements
use Rattle.odd_forms.specs.declared.form.Level.{Level}
use Rattle.odd_forms.specs.declared.form.Level.TheVariants as level
use Rattle.odd_emit.specs.Saying.{Said, Value, pairs_of, spoken, spoken_with}
use Rattle.merged_laws.proofs.Fits.{AreFormedValues, AreMet, AreOnce, IsFormedIfThere, MayStand, child_called, count_tagged, count_told, fits, form_free, kind_among, name_among}
use Rattle.merged_laws.proofs.Said.{AreLegal, IsLegalValue, are_apart, are_sayable, is_plain_name, locals, said_plain}
use Rattle.merged_laws.proofs.Told.{AllOf, IsTold, child_shown, is_told, name_of, none_shown, shown_name, tag_said, told_with}
use Rattle.merged_laws.proofs.Values.{value_legal}

-- what is said is right by the form, with children of these tags: all that is to be shown of one kind of element
pub record Says (e : Element) (said : List Said) (inside : List Markup) : Type 0 where
  pub sayable : are_sayable (locals said) ≡ true
  pub right : fits (form_at e) said ≡ true
  pub formed : AreFormedValues (form_at e).attributes said
  pub met : (binds : List Bind) → AreMet binds said (map tag_said inside) (form_at e).demands
  pub few : AreOnce (form_at e).once (map tag_said inside)

-- the same of an element with nothing in it, whose tag declares prefixes
pub record SaysWith (e : Element) (prefixes : List Pair) (said : List Said) : Type 0 where
  pub sayable : are_sayable (locals said) ≡ true
  pub right : fits (form_at e) said ≡ true
  pub formed : AreFormedValues (form_at e).attributes said
  pub declared : ArePlainPrefixes prefixes
  pub met : (around : List Bind) → AreMet (around ++ map bind_of prefixes) said [] (form_at e).demands
  pub few : AreOnce (form_at e).once []

-- Its tag

-- each element of the table has a name of ASCII
pub names_ascii : (e : Element) → is_ascii_name (form_at e).name ≡ true
names_ascii elements.SchemaSpec = refl
names_ascii e = refl

one_legal : (kind : _) (v : Option Value) → IsFormedIfThere kind v → IsLegalValue v
one_legal kind None h = tt
one_legal kind (Some v) h = value_legal kind v h

all_legal : (attributes : _) (said : List Said) → AreFormedValues attributes said → AreLegal said
all_legal attributes [] h = tt
all_legal attributes (s ∷ rest) h = (one_legal (kind_among attributes s.local) s.value h.0, all_legal attributes rest h.1)

tag_plain : (e : Element) (said : List Said) → are_sayable (locals said) ≡ true → AreFormedValues (form_at e).attributes said → IsPlainTag (form_at e).name (pairs_of said)
tag_plain e said sayable formed = said_plain (form_at e).name said (names_ascii e) sayable (all_legal (form_at e).attributes said formed)

all_plain : (ms : List Markup) → AllOf IsPlain ms → ArePlain (all_of ms)
all_plain [] h = tt
all_plain (m ∷ ms) h = (h.0, all_plain ms h.1)

pub says_plain : (e : Element) (said : List Said) (inside : List Markup) → Says e said inside → AllOf IsPlain inside → IsPlain (spoken (form_at e).name said inside)
says_plain e said inside h plain = (tag_plain e said h.sayable h.formed, all_plain inside plain)

-- A tree that shows it

pub record IsHeard (e : Element) (said : List Said) (inside : List Markup) (t : Tree) : Type 0 where
  pub told : IsTold (form_at e).name said inside t
  pub whole : (binds : List Bind) (rule : ℕ) → FormFault (form_at e) binds t rule → ⊥

-- such a tree, whose tag has these bindings
told_at : (binds : List Bind) (e : Element) (said : List Said) (inside : List Markup) (t : Tree) → Says e said inside → Shows tei_namespace binds (spoken (form_at e).name said inside) t
    → IsTold (form_at e).name said inside t
told_at binds e said inside t h s = is_told binds (form_at e).name said inside t (and_parts (list_all is_plain_name (locals said)) (are_apart (locals said)) h.sayable).1 s

pub says_told : (e : Element) (said : List Said) (inside : List Markup) (t : Tree) → Says e said inside → Shows tei_namespace [] (spoken (form_at e).name said inside) t → IsTold (form_at e).name said inside t
says_told = told_at []

pub heard : (binds : List Bind) (e : Element) (said : List Said) (inside : List Markup) (t : Tree) → Says e said inside → AllOf (MayStand e) inside
    → Shows tei_namespace binds (spoken (form_at e).name said inside) t → IsHeard e said inside t
heard binds e said inside t h may s =
    let k = told_at binds e said inside t h s in
    record { told = k; whole = λ around. form_free e around (form_at e).name said inside t k h.right h.formed (h.met around) may h.few }

-- Faults at any depth

-- as this element of the table a tree that shows it breaks nothing, where so many levels may still open, under any declarations around it
abbrev pub IsSound : Element → ℕ → Markup → Type 0
IsSound e left m = (around : List Bind) (t : Tree) → Shows tei_namespace [] m t → (rule : ℕ) → DeepFault e left around t rule → ⊥

-- as a child of this element it may stand, and breaks nothing
abbrev pub IsPlaced : Element → ℕ → Markup → Type 0
IsPlaced parent left m = (kind : Element) × (child_called parent (tei (name_of m)) ≡ Some kind) × IsSound kind left m

-- whether it is a level is told by the tags of its children
abbrev pub level_tagged : Level → Element → List Tag → Bool
level_tagged level.Never e tags = false
level_tagged level.Always e tags = true
level_tagged level.OfSeveral e tags = nat_le 2 (count_tagged ((form_at e).many ++ (form_at e).once) tags)

abbrev pub is_level_said : Element → List Markup → Bool
is_level_said e inside = level_tagged (form_at e).level e (map tag_said inside)

level_told : (l : Level) (e : Element) (t : Tree) (tags : List Tag) → tags_in t ≡ tags → level_by l (form_at e) t ≡ level_tagged l e tags
level_told level.Never e t tags are = refl
level_told level.Always e t tags are = refl
level_told level.OfSeveral e t tags are =
    let kinds = (form_at e).many ++ (form_at e).once in
    ap (nat_le 2) (count_told (λ (tag : Tag). is_some (name_among kinds tag.name)) (children_of t) ∙ ap (count_tagged kinds) are)

may_stand : (e : Element) (left : ℕ) (inside : List Markup) → AllOf (IsPlaced e left) inside → AllOf (MayStand e) inside
may_stand e left [] h = tt
may_stand e left (m ∷ ms) h = (ap is_some h.0.1, may_stand e left ms h.1)

-- a child that is placed breaks nothing as the element that it is
placed_free : (e kind : Element) (left : ℕ) (m : Markup) (around : List Bind) (u : Tree) (rule : ℕ) → IsPlaced e left m → Shows tei_namespace [] m u → IsChild e kind u → DeepFault kind left around u rule → ⊥
placed_free e kind left m around u rule p s is f =
    let same : kind ≡ p.0 = same_Some _ _ (sym is ∙ ap (child_called e) (shown_name m u s) ∙ p.1) in
    p.2 around u s rule (subst (λ k. DeepFault k left around u rule) same f)

deep_free : (e : Element) (left : ℕ) (said : List Said) (inside : List Markup) (around : List Bind) (t : Tree) (rule : ℕ) → IsHeard e said inside t → (is_level_said e inside ≡ true → left ≡ 0 → ⊥)
    → AllOf (IsPlaced e (left_inside (is_level_said e inside) left)) inside → DeepFault e left around t rule → ⊥
deep_free e left said inside around t rule k shallow placed (DeepFault.itself f) = k.whole (within around t) rule f
deep_free e left said inside around t rule k shallow placed (DeepFault.deep is none) = shallow (sym (level_told (form_at e).level e t (map tag_said inside) k.told.tags) ∙ is) none
deep_free e left said inside around t rule k shallow placed (DeepFault.inside kind child stands is f) =
    let below = left_inside (is_level_said e inside) left in
    let level_is = level_told (form_at e).level e t (map tag_said inside) k.told.tags in
    let s = child_shown (IsPlaced e below) inside (children_of t) placed k.told.children child stands in
    placed_free e kind below s.0 (within around t) child rule s.1 s.2 is (subst (λ b. DeepFault kind (left_inside b left) (within around t) child rule) level_is f)

-- what says what fits its form breaks nothing, where a level may open if it is one, and its children break nothing
pub sound : (e : Element) (left : ℕ) (said : List Said) (inside : List Markup) → Says e said inside → (is_level_said e inside ≡ true → left ≡ 0 → ⊥)
    → AllOf (IsPlaced e (left_inside (is_level_said e inside) left)) inside → IsSound e left (spoken (form_at e).name said inside)
sound e left said inside h shallow placed around t s rule f =
    deep_free e left said inside around t rule (heard [] e said inside t h (may_stand e (left_inside (is_level_said e inside) left) inside placed) s) shallow placed f

-- An element with nothing in it, whose tag declares prefixes

module _ (e : Element) (prefixes : List Pair) (said : List Said) (h : SaysWith e prefixes said) where
  pub with_plain : IsPlain (spoken_with (form_at e).name prefixes said)
  with_plain = (tag_plain e said h.sayable h.formed, h.declared)

  pub with_told : (t : Tree) → Shows tei_namespace [] (spoken_with (form_at e).name prefixes said) t → IsTold (form_at e).name said [] t
  with_told t s = told_with (form_at e).name prefixes said t (and_parts (list_all is_plain_name (locals said)) (are_apart (locals said)) h.sayable).1 s

  -- it breaks nothing under the declarations around it and its own
  pub with_sound : (left : ℕ) → (form_at e).level ≡ level.Never → IsSound e left (spoken_with (form_at e).name prefixes said)
  with_sound left flat around t s rule (DeepFault.itself f) =
      let met = subst (λ bs. AreMet (around ++ bs) said [] (form_at e).demands) (sym s.2) (h.met around) in
      form_free e (within around t) (form_at e).name said [] t (with_told t s) h.right h.formed met tt h.few rule f
  with_sound left flat around t s rule (DeepFault.deep is none) = both_ways _ (ap (λ l. level_by l (form_at e) t) flat) is
  with_sound left flat around t s rule (DeepFault.inside kind child stands is f) =
      nothing_stands child (subst (λ ts. StandsIn ts child) (none_shown (children_of t) (with_told t s).children) stands)
