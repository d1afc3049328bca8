-- Children that may be absent: each of them has its own name, so it is found by that name among those that are there, whichever these are.
use Rattle.std.proofs.Common.{◌≡◌, ◌≤◌, ℕ, Bool, true, false, ◌&&◌, ◌||◌, if◌then◌else◌, not, List, [], ◌∷◌, map, Option, Some, None, refl, sym, ap, ap₂, subst, ◌∙◌, ⊎_elim, arith, cond, ◌+◌}
use Rattle.std.specs.Prelude.{count_by, find, is_some, nat_le}
use Rattle.std.specs.List.{list_all, list_any}
use Rattle.std.specs.Option.{IfSome, option_map}
use Rattle.std.specs.Cmp.Lexicographic.{same_text}
use Rattle.std.proofs.lemmas.Bool.{and_parts, both_ways, cases_Bool, leb-true, or_parts}
use Rattle.std.proofs.lemmas.List.Sums.{sum_by-cons}
use Rattle.odd_text.specs.Same.{is_same}
use Rattle.odd_text.specs.Standing.{StandsIn}
use Rattle.odd_tree.specs.Elements.{children_of}
use Rattle.odd_tree.specs.Markup.{Markup}
use Rattle.odd_tree.specs.declared.tree.Tree.{Tree}
use Rattle.odd_text.proofs.InList.{first_or_later, nothing_stands, stands_first, stands_later}
use Rattle.odd_tree.proofs.PrintedTrees.{Shows}
use Rattle.odd_forms.specs.Children.{GivesOne}
use Rattle.odd_forms.specs.Names.{first_named, is_one_of, tei, tei_namespace}
use Rattle.odd_forms.specs.Table.{form_at}
use Rattle.odd_forms.specs.Tags.{Tag, is_tagged}
use Rattle.odd_text.specs.Same.{is_among}
use Rattle.odd_forms.specs.declared.element.Element.{Element}
use Rattle.odd_forms.proofs.Children.{child_named, named_one, one_named}
use Rattle.odd_emit.specs.Saying.{if_any, present}
use Rattle.merged_laws.proofs.Fits.{AreOnce, any_told, child_called, count_tagged, name_among}
use Rattle.merged_laws.proofs.Said.{are_apart, not_true}
use Rattle.merged_laws.proofs.Told.{AllOf, AreShown, name_of, shown_name, shown_tags, tag_said}

-- what holds of one that is there
abbrev pub IfThere : (Markup → Type 0) → Option Markup → Type 0
IfThere P None = Unit {0}
IfThere P (Some m) = P m

abbrev pub AllThere : (Markup → Type 0) → List (Option Markup) → Type 0
AllThere P [] = Unit {0}
AllThere P (m ∷ ms) = IfThere P m × AllThere P ms

-- holds of all that are there
pub all_present : (P : Markup → Type 0) (ms : List (Option Markup)) → AllThere P ms → AllOf P (present ms)
all_present P [] h = tt
all_present P (None ∷ ms) h = all_present P ms h.1
all_present P (Some m ∷ ms) h = (h.0, all_present P ms h.1)

-- each has the name of its place, where it is there
abbrev pub AreNamed : List (List ℕ) → List (Option Markup) → Type 0
AreNamed [] [] = Unit {0}
AreNamed (name ∷ names) (m ∷ ms) = IfThere (λ n. name_of n ≡ name) m × AreNamed names ms
AreNamed names ms = ⊥

-- the one of a name, where it is there
abbrev pub child_of : List (List ℕ) → List (Option Markup) → List ℕ → Option Markup
child_of [] ms local = None
child_of (name ∷ names) [] local = None
child_of (name ∷ names) (m ∷ ms) local = if is_same name local then m else child_of names ms local

-- whether the tag of one is of a name
of_name : (m : Markup) (name local : List ℕ) → name_of m ≡ name → is_tagged local (tag_said m) ≡ (is_same name local || false)
of_name m name local e = ap (λ n. is_same n local || false) e

-- How many have a name

abbrev pub how_many : List ℕ → List (List ℕ) → ℕ
how_many local [] = 0
how_many local (name ∷ names) = cond (is_same name local || false) 1 0 + how_many local names

few_present : (local : List ℕ) (names : List (List ℕ)) (ms : List (Option Markup)) → AreNamed names ms → count_by (is_tagged local) (map tag_said (present ms)) ≤ how_many local names
few_present local [] [] h = omega arith
few_present local [] (m ∷ ms) h = absurd h
few_present local (name ∷ names) [] h = absurd h
few_present local (name ∷ names) (None ∷ ms) h = let k = few_present local names ms h.1 in omega arith
few_present local (name ∷ names) (Some m ∷ ms) h =
    let k = few_present local names ms h.1 in
    let more = sum_by-cons (λ (tag : Tag). cond (is_tagged local tag) 1 0) (tag_said m) (map tag_said (present ms)) in
    let one : cond (is_tagged local (tag_said m)) 1 0 ≡ cond (is_same name local || false) 1 0 = ap (λ (b : Bool). cond {A = ℕ} b 1 0) (of_name m name local h.0) in
    omega (arith, k, more, one)

-- of each element that may stand once there is no second, by the names of the places
abbrev pub are_once : List Element → List (List ℕ) → Bool
are_once once names = list_all (λ e. nat_le (how_many (form_at e).name names) 1) once

pub once_present : (once : List Element) (names : List (List ℕ)) (ms : List (Option Markup)) → AreNamed names ms → are_once once names ≡ true → AreOnce once (map tag_said (present ms))
once_present [] names ms h k = tt
once_present (e ∷ es) names ms h k =
    let p = and_parts (nat_le (how_many (form_at e).name names) 1) (are_once es names) k in
    let few = few_present (form_at e).name names ms h in
    let one = leb-true (how_many (form_at e).name names) 1 p.0 in
    (omega arith, once_present es names ms h p.1)

-- One of a name, which no other place has

module _ (local : List ℕ) where
  -- none of a name that no place has
  none_named : (names : List (List ℕ)) (ms : List (Option Markup)) → AreNamed names ms → list_any (λ name. is_same name local) names ≡ false → list_any (is_tagged local) (map tag_said (present ms)) ≡ false
  none_named [] [] h k = refl
  none_named [] (m ∷ ms) h k = absurd h
  none_named (name ∷ names) [] h k = absurd h
  none_named (name ∷ names) (None ∷ ms) h k = none_named names ms h.1 (or_parts (is_same name local) (list_any (λ n. is_same n local) names) k).1
  none_named (name ∷ names) (Some m ∷ ms) h k =
      let o = or_parts (is_same name local) (list_any (λ n. is_same n local) names) k in
      ap₂ (λ (a b : Bool). a || b) (of_name m name local h.0 ∙ ap (λ b. b || false) o.0) (none_named names ms h.1 o.1)

  -- the other places do not have the name of this one
  others : (name : List ℕ) (names : List (List ℕ)) → list_any (λ n. is_same n name) names ≡ false → is_same name local ≡ true → list_any (λ n. is_same n local) names ≡ false
  others name names k e = subst (λ x. list_any (λ n. is_same n x) names ≡ false) (same_text name local (sym e)) k

  -- it is there, or it is not
  pub has_present : (names : List (List ℕ)) (ms : List (Option Markup)) → AreNamed names ms → are_apart names ≡ true → list_any (is_tagged local) (map tag_said (present ms)) ≡ is_some (child_of names ms local)
  has_present [] [] h k = refl
  has_present [] (m ∷ ms) h k = absurd h
  has_present (name ∷ names) [] h k = absurd h
  has_present (name ∷ names) (m ∷ ms) h k =
      let p = and_parts (not (list_any (λ y. is_same y name) names)) (are_apart names) k in
      ⊎_elim (λ e. here m h.0 e (none_named names ms h.1 (others name names (not_true _ p.0) e)) ∙ ap (λ b. is_some (if b then m else child_of names ms local)) (sym e))
      (λ e. passed m h.0 e ∙ has_present names ms h.1 p.1 ∙ ap (λ b. is_some (if b then m else child_of names ms local)) (sym e)) (cases_Bool (is_same name local))
    where
      here : (o : Option Markup) → IfThere (λ n. name_of n ≡ name) o → is_same name local ≡ true → list_any (is_tagged local) (map tag_said (present ms)) ≡ false
          → list_any (is_tagged local) (map tag_said (if_any o (present ms))) ≡ is_some o
      here None h e none = none
      here (Some n) h e none = ap (λ b. b || list_any (is_tagged local) (map tag_said (present ms))) (of_name n name local h ∙ ap (λ b. b || false) e)

      passed : (o : Option Markup) → IfThere (λ n. name_of n ≡ name) o → is_same name local ≡ false → list_any (is_tagged local) (map tag_said (if_any o (present ms))) ≡ list_any (is_tagged local) (map tag_said (present ms))
      passed None h e = refl
      passed (Some n) h e = ap (λ b. b || list_any (is_tagged local) (map tag_said (present ms))) (of_name n name local h ∙ ap (λ b. b || false) e)

  -- no tree shows one of a name that no place has
  none_shown : (names : List (List ℕ)) (ms : List (Option Markup)) (ts : List Tree) → AreNamed names ms → list_any (λ name. is_same name local) names ≡ false → AreShown (present ms) ts → find (is_one_of (local ∷ [])) ts ≡ None
  none_shown names ms ts h k s = none_found ts (any_told (is_tagged local) ts ∙ ap (list_any (is_tagged local)) (shown_tags (present ms) ts s) ∙ none_named names ms h k)
    where
      none_found : (us : List Tree) → list_any (is_one_of (local ∷ [])) us ≡ false → find (is_one_of (local ∷ [])) us ≡ None
      none_found [] e = refl
      none_found (u ∷ us) e = let o = or_parts (is_one_of (local ∷ []) u) (list_any (is_one_of (local ∷ [])) us) e in rw o.0 (none_found us o.1)

  -- the first of the name among the trees shows it, where it is there
  abbrev pub IsFoundAs : List Tree → Option Markup → Option Tree → Type 0
  IsFoundAs ts None found = found ≡ None
  IsFoundAs ts (Some m) found = (u : Tree) × (found ≡ Some u) × StandsIn ts u × Shows tei_namespace [] m u × (is_one_of (local ∷ []) u ≡ true)

  shown_one : (m : Markup) (u : Tree) → Shows tei_namespace [] m u → is_one_of (local ∷ []) u ≡ (is_same (name_of m) local || false)
  shown_one m u s = ap (λ n. is_same n.ns tei_namespace && is_among (local ∷ []) n.local) (shown_name m u s)

  pub first_present : (names : List (List ℕ)) (ms : List (Option Markup)) (ts : List Tree) → AreNamed names ms → are_apart names ≡ true → AreShown (present ms) ts
      → IsFoundAs ts (child_of names ms local) (find (is_one_of (local ∷ [])) ts)
  first_present [] [] [] h k s = refl
  first_present [] [] (t ∷ ts) h k s = absurd s
  first_present [] (m ∷ ms) ts h k s = absurd h
  first_present (name ∷ names) [] ts h k s = absurd h
  first_present (name ∷ names) (m ∷ ms) ts h k s =
      let p = and_parts (not (list_any (λ y. is_same y name) names)) (are_apart names) k in
      ⊎_elim (λ e. subst (λ b. IsFoundAs ts (if b then m else child_of names ms local) (find (is_one_of (local ∷ [])) ts)) (sym e) (here m ts h.0 e (others name names (not_true _ p.0) e) s))
      (λ e. subst (λ b. IsFoundAs ts (if b then m else child_of names ms local) (find (is_one_of (local ∷ [])) ts)) (sym e) (passed m ts h.0 e (λ us. first_present names ms us h.1 p.1) s))
      (cases_Bool (is_same name local))
    where
      here : (o : Option Markup) (us : List Tree) → IfThere (λ n. name_of n ≡ name) o → is_same name local ≡ true → list_any (λ n. is_same n local) names ≡ false → AreShown (if_any o (present ms)) us
          → IsFoundAs us o (find (is_one_of (local ∷ [])) us)
      here None us n e none shown = none_shown names ms us h.1 none shown
      here (Some x) [] n e none shown = absurd shown
      here (Some x) (u ∷ us) n e none shown =
          let is : is_one_of (local ∷ []) u ≡ true = shown_one x u shown.0 ∙ ap (λ l. is_same l local || false) n ∙ ap (λ b. b || false) e in
          (u, ap (λ b. if b then Some u else find (is_one_of (local ∷ [])) us) is, stands_first u us, shown.0, is)

      later : (o : Option Markup) (found : Option Tree) (u : Tree) (us : List Tree) → IsFoundAs us o found → IsFoundAs (u ∷ us) o found
      later None found u us f = f
      later (Some x) found u us f = (f.0, f.1, stands_later u f.0 us f.2, f.3, f.4)

      passed : (o : Option Markup) (us : List Tree) → IfThere (λ n. name_of n ≡ name) o → is_same name local ≡ false
          → ((vs : List Tree) → AreShown (present ms) vs → IsFoundAs vs (child_of names ms local) (find (is_one_of (local ∷ [])) vs)) → AreShown (if_any o (present ms)) us
          → IsFoundAs us (child_of names ms local) (find (is_one_of (local ∷ [])) us)
      passed None us n e rest shown = rest us shown
      passed (Some x) [] n e rest shown = absurd shown
      passed (Some x) (u ∷ us) n e rest shown =
          let other : is_one_of (local ∷ []) u ≡ false = shown_one x u shown.0 ∙ ap (λ l. is_same l local || false) n ∙ ap (λ b. b || false) e in
          subst (IsFoundAs (u ∷ us) (child_of names ms local)) (ap (λ b. if b then Some u else find (is_one_of (local ∷ [])) us) (sym other))
          (later (child_of names ms local) (find (is_one_of (local ∷ [])) us) u us (rest us shown.1))

-- What is read of it

-- a function reads this of it, where it is there
abbrev pub IsReadBy : {X : Type 0} → (Tree → X) → Option Markup → Option X → Type 0
IsReadBy {X} f None o = o ≡ None
IsReadBy {X} f (Some m) o = (x : X) × (o ≡ Some x) × ((u : Tree) → Shows tei_namespace [] m u → f u ≡ x)

-- what the first child of a name gives
pub first_gives : {X : Type 0} (f : Tree → X) (local : List ℕ) (names : List (List ℕ)) (ms : List (Option Markup)) (t : Tree) (o : Option X) → AreNamed names ms → are_apart names ≡ true
    → AreShown (present ms) (children_of t) → IsReadBy f (child_of names ms local) o → option_map f (first_named local t) ≡ o
first_gives {X} f local names ms t o h k s r = by (child_of names ms local) (first_named local t) (first_present local names ms (children_of t) h k s) r
  where
    by : (m : Option Markup) (found : Option Tree) → IsFoundAs local (children_of t) m found → IsReadBy f m o → option_map f found ≡ o
    by None found e r = ap (option_map f) e ∙ sym r
    by (Some m) found e r = ap (option_map f) e.1 ∙ ap Some (r.2 e.0 e.3) ∙ sym r.1

-- where none is found, none passes
none_passes : (p : Tree → Bool) (us : List Tree) → find p us ≡ None → (u : Tree) → StandsIn us u → p u ≡ true → ⊥
none_passes p [] e u stands named = nothing_stands u stands
none_passes p (v ∷ us) e u stands named =
    let opened = λ (b : Bool) (is : p v ≡ b). sym (ap (λ x. if x then Some v else find p us) is) ∙ e in
    ⊎_elim (λ t. (let never : Some v ≡ None = opened true t in cc))
    (λ f. ⊎_elim (λ same. both_ways (p v) f (ap p (sym same) ∙ named)) (λ later. none_passes p us (opened false f) u later named) (first_or_later v u us stands)) (cases_Bool (p v))

-- it is of this, where it is there
abbrev pub IsOfGiven : {X : Type 0} → (Tree → X → Type 0) → Option Markup → Option X → Type 0
IsOfGiven {X} IsOf None o = o ≡ None
IsOfGiven {X} IsOf (Some m) o = (x : X) × (o ≡ Some x) × ((u : Tree) → Shows tei_namespace [] m u → IsOf u x)

-- what the child of a kind gives
pub gives_present : {X : Type 0} (parent kind : Element) (IsOf : Tree → X → Type 0) (names : List (List ℕ)) (ms : List (Option Markup)) (ts : List Tree) (o : Option X) → AreNamed names ms
    → are_apart names ≡ true → child_called parent (tei (form_at kind).name) ≡ Some kind → AreShown (present ms) ts → IsOfGiven IsOf (child_of names ms (form_at kind).name) o
    → GivesOne parent kind IsOf ts o
gives_present {X} parent kind IsOf names ms ts o h k is s r = by (child_of names ms (form_at kind).name) (first_present (form_at kind).name names ms ts h k s) r
  where
    by : (m : Option Markup) → IsFoundAs (form_at kind).name ts m (find (is_one_of ((form_at kind).name ∷ [])) ts) → IsOfGiven IsOf m o → GivesOne parent kind IsOf ts o
    by None e r = subst (GivesOne parent kind IsOf ts) (sym r) (GivesOne.none (λ child stands called. none_passes (is_one_of ((form_at kind).name ∷ [])) ts e child stands (named_one (form_at kind).name child (child_named parent kind child called))))
    by (Some m) e r = subst (GivesOne parent kind IsOf ts) (sym r.1) (GivesOne.some e.0 e.2 (ap (child_called parent) (one_named (form_at kind).name e.0 e.4) ∙ is) (r.2 e.0 e.3))

-- How many are of some kinds

-- the places that are there and of one of the kinds
abbrev pub count_there : List Element → List (List ℕ) → List (Option Markup) → ℕ
count_there kinds [] ms = 0
count_there kinds (name ∷ names) [] = 0
count_there kinds (name ∷ names) (m ∷ ms) = cond (is_some m && is_some (name_among kinds (tei name))) 1 0 + count_there kinds names ms

pub count_present : (kinds : List Element) (names : List (List ℕ)) (ms : List (Option Markup)) → AreNamed names ms → count_tagged kinds (map tag_said (present ms)) ≡ count_there kinds names ms
count_present kinds [] [] h = refl
count_present kinds [] (m ∷ ms) h = absurd h
count_present kinds (name ∷ names) [] h = absurd h
count_present kinds (name ∷ names) (None ∷ ms) h = let k = count_present kinds names ms h.1 in omega (arith, k)
count_present kinds (name ∷ names) (Some m ∷ ms) h =
    sum_by-cons (λ (tag : Tag). cond (is_some (name_among kinds tag.name)) 1 0) (tag_said m) (map tag_said (present ms))
    ∙ ap₂ (λ (a b : ℕ). a + b) (ap (λ n. cond (is_some (name_among kinds (tei n))) 1 0) h.0) (count_present kinds names ms h.1)

-- Children, and values of attributes, that are made of what may be absent: what is shown of each that is there

module _ {A : Type 0} (f : A → Markup) (o : Option A) where
  pub there_if : (P : Markup → Type 0) (Q : A → Type 0) → ((x : A) → Q x → P (f x)) → IfSome o Q → IfThere P (option_map f o)
  there_if P Q h q = by o q
    where
      by : (p : Option A) → IfSome p Q → IfThere P (option_map f p)
      by None q = tt
      by (Some x) q = h x q

  pub named_if : (name : List ℕ) → ((x : A) → name_of (f x) ≡ name) → IfThere (λ m. name_of m ≡ name) (option_map f o)
  named_if name h = by o
    where
      by : (p : Option A) → IfThere (λ m. name_of m ≡ name) (option_map f p)
      by None = tt
      by (Some x) = h x

  pub read_if : {X : Type 0} (g : Tree → X) (made : A → X) (Q : A → Type 0) → ((x : A) → Q x → (u : Tree) → Shows tei_namespace [] (f x) u → g u ≡ made x) → IfSome o Q
      → IsReadBy g (option_map f o) (option_map made o)
  read_if {X} g made Q h q = by o q
    where
      by : (p : Option A) → IfSome p Q → IsReadBy g (option_map f p) (option_map made p)
      by None q = refl
      by (Some x) q = (made x, refl, h x q)

  pub given_if : {X : Type 0} (IsOf : Tree → X → Type 0) (made : A → X) (Q : A → Type 0) → ((x : A) → Q x → (u : Tree) → Shows tei_namespace [] (f x) u → IsOf u (made x)) → IfSome o Q
      → IsOfGiven IsOf (option_map f o) (option_map made o)
  given_if {X} IsOf made Q h q = by o q
    where
      by : (p : Option A) → IfSome p Q → IsOfGiven IsOf (option_map f p) (option_map made p)
      by None q = refl
      by (Some x) q = (made x, refl, h x q)
