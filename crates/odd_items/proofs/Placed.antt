-- The ids of the groups before a place: the first of each, and the first that has the id of an earlier one.
use Rattle.std.proofs.Common.{◌≡◌, ◌↔◌, ◌⊎◌, inl, inr, ⊎_elim, ℕ, ◌+◌, ◌<◌, ◌≤◌, Bool, true, false, cond, List, length, get_or, map, Some, None, refl, sym, ap, ◌∙◌, subst, arith}
use Rattle.std.proofs.lemmas.Bool.{cases_lt, cases_order, false≢true}
use Rattle.std.proofs.lemmas.Option.{same_Some, slice_get_within, slice_get-map, slice_get_read}
use Rattle.std.specs.BTreeMap.{is_at}
use Rattle.std.specs.Borrow.{Bor}
use Rattle.std.specs.Cmp.Lexicographic.{same_text, bytes_decides}
use Rattle.std.specs.Option.{option_map}
use Rattle.std.specs.Prelude.{Option, slice_get, is_some}
use Rattle.odd_text.specs.Least.{IsLeast}
use Rattle.odd_text.specs.Text.{text_cmp}
use Rattle.odd_text.specs.Same.{is_same}
use Rattle.odd_tree.proofs.LastBound.{is_at_text}
use Rattle.odd_tree.specs.declared.tree.Tree.{Tree}
use Rattle.odd_items.specs.Ids.{HasId, IsAgain, IsFirstWith, id_of}

-- the first group before the end that has the id, where one has
abbrev pub IsFirstBefore : List Tree → ℕ → List ℕ → Option ℕ → Type 0
IsFirstBefore groups end id None = (place : ℕ) → place < end → HasId groups id place → ⊥
IsFirstBefore groups end id (Some place) = (place < end) × IsFirstWith groups id place

-- the group at a place before the end has the id of an earlier one
abbrev pub IsAgainBefore : List Tree → ℕ → ℕ → Type 0
IsAgainBefore groups end place = (place < end) × IsAgain groups place

abbrev pub groups_seen : List (Bor Tree) → List Tree
groups_seen groups = map (λ g. g.now) groups

-- the group that is read at a place
pub group_at : (groups : List (Bor Tree)) (i : ℕ) (g : Bor Tree) → i < length groups → g ≡ get_or groups i g → slice_get (groups_seen groups) i ≡ Some g.now
group_at groups i g h at = slice_get-map (λ g. g.now) groups i ∙ ap (option_map (λ g. g.now)) (slice_get_read groups (length groups) i g refl h at)

-- the id of a group that is read
id_here : (groups : List Tree) (i : ℕ) (g : Tree) (id : List ℕ) → slice_get groups i ≡ Some g → HasId groups id i → id_of g ≡ Some id
id_here groups i g id at has = ap id_of (same_Some _ _ (sym at ∙ has.1)) ∙ has.2

-- a group has one id
same_id : (groups : List Tree) (i : ℕ) (one other : List ℕ) → HasId groups one i → HasId groups other i → one ≡ other
same_id groups i one other has also = same_Some _ _ (sym has.2 ∙ id_here groups i has.0 other has.1 also)

-- a place before the next one is before this one, or this one
pub before_or_here : (place end : ℕ) → place < end + 1 → (place < end) ⊎ (end ≡ place)
before_or_here place end less = ⊎_elim inl (λ more. inr (omega arith)) (cases_lt place end)

-- the group at a place does not have the id
pub first_other : (groups : List Tree) (end : ℕ) (id : List ℕ) (found : Option ℕ) → (HasId groups id end → ⊥) → IsFirstBefore groups end id found → IsFirstBefore groups (end + 1) id found
first_other groups end id None other before = λ place less has.
    ⊎_elim (λ earlier. before place earlier has) (λ here. other (subst (HasId groups id) (sym here) has)) (before_or_here place end less)
first_other groups end id (Some place) other before = (omega (arith, before.0), before.1)

-- an earlier one has the id
pub first_held : (groups : List Tree) (end : ℕ) (id : List ℕ) (found : ℕ) → IsFirstBefore groups end id (Some found) → IsFirstBefore groups (end + 1) id (Some found)
first_held groups end id found before = (omega (arith, before.0), before.1)

-- it is the first that has the id
pub first_new : (groups : List Tree) (end : ℕ) (id : List ℕ) → HasId groups id end → IsFirstBefore groups end id None → IsFirstBefore groups (end + 1) id (Some end)
first_new groups end id has before = (omega arith, record { has = has; first = before })

-- after the group at a place was put where its id was missing
pub first_put : (groups : List Tree) (end : ℕ) (new id : List ℕ) (found : Option ℕ) → HasId groups new end → IsFirstBefore groups end new None → IsFirstBefore groups end id found
    → IsFirstBefore groups (end + 1) id (cond (is_at (text_cmp new) id) (Some end) found)
first_put groups end new id found has missing before = cases (is_same new id) refl
  where
    cases : (same : Bool) → is_same new id ≡ same → IsFirstBefore groups (end + 1) id (cond (is_at (text_cmp new) id) (Some end) found)
    cases true e =
        subst (λ b. IsFirstBefore groups (end + 1) id (cond b (Some end) found)) (sym (is_at_text new id ∙ e))
        (subst (λ x. IsFirstBefore groups (end + 1) x (Some end)) (same_text new id (sym e)) (first_new groups end new has missing))
    cases false e =
        subst (λ b. IsFirstBefore groups (end + 1) id (cond b (Some end) found)) (sym (is_at_text new id ∙ e))
        (first_other groups end id found (λ other. false≢true (sym e ∙ (bytes_decides new id).1 (same_id groups end new id has other))) before)

-- a group without an id has none
pub none_here : (groups : List Tree) (i : ℕ) (g : Tree) (id : List ℕ) → slice_get groups i ≡ Some g → id_of g ≡ None → HasId groups id i → ⊥
none_here groups i g id at none has =
    let e = sym none ∙ id_here groups i g id at has in
    cc

-- after a group without an id
pub first_unnamed : (groups : List Tree) (end : ℕ) (g : Tree) (id : List ℕ) (found : Option ℕ) → slice_get groups end ≡ Some g → id_of g ≡ None → IsFirstBefore groups end id found → IsFirstBefore groups (end + 1) id found
first_unnamed groups end g id found at none before = first_other groups end id found (none_here groups end g id at none) before

-- after a group whose id was there
pub first_there : (groups : List Tree) (end : ℕ) (there : List ℕ) (found : List ℕ → Option ℕ) (place : ℕ) → HasId groups there end → found there ≡ Some place → ((id : List ℕ) → IsFirstBefore groups end id (found id))
    → (id : List ℕ) → IsFirstBefore groups (end + 1) id (found id)
first_there groups end there found place has is before id = cases (found id) refl
  where
    cases : (o : Option ℕ) → found id ≡ o → IsFirstBefore groups (end + 1) id (found id)
    cases None e =
        let other : HasId groups id end → ⊥ = λ h.
        let same = ap found (same_id groups end there id has h) in
        cc in
        first_other groups end id (found id) other (before id)
    cases (Some p) e = subst (IsFirstBefore groups (end + 1) id) (sym e) (first_held groups end id p (subst (IsFirstBefore groups end id) e (before id)))

-- the group at a place does not have the id of an earlier one
pub again_other : (groups : List Tree) (end : ℕ) (again : Option ℕ) → (IsAgain groups end → ⊥) → IsLeast (IsAgainBefore groups end) again → IsLeast (IsAgainBefore groups (end + 1)) again
again_other groups end None other least = λ place h.
    ⊎_elim (λ earlier. least place (earlier, h.1)) (λ here. other (subst (IsAgain groups) (sym here) h.1)) (before_or_here place end h.0)
again_other groups end (Some place) other least =
    ((omega (arith, least.0.0), least.0.1), λ place h. ⊎_elim (λ earlier. least.1 place (earlier, h.1)) (λ here. absurd (other (subst (IsAgain groups) (sym here) h.1))) (before_or_here place end h.0))

-- an earlier one has
pub again_held : (groups : List Tree) (end again : ℕ) → IsLeast (IsAgainBefore groups end) (Some again) → IsLeast (IsAgainBefore groups (end + 1)) (Some again)
again_held groups end again least =
    ((omega (arith, least.0.0), least.0.1), λ place h. ⊎_elim (λ earlier. least.1 place (earlier, h.1)) (λ here. omega (arith, here, least.0.0)) (before_or_here place end h.0))

-- it is the first that has
pub again_new : (groups : List Tree) (end : ℕ) → IsAgain groups end → IsLeast (IsAgainBefore groups end) None → IsLeast (IsAgainBefore groups (end + 1)) (Some end)
again_new groups end again least =
    ((omega arith, again), λ place h. ⊎_elim (λ earlier. absurd (least place (earlier, h.1))) (λ here. omega (arith, here)) (before_or_here place end h.0))

-- a group without an id has that of no other
pub again_unnamed : (groups : List Tree) (end : ℕ) (g : Tree) (again : Option ℕ) → slice_get groups end ≡ Some g → id_of g ≡ None → IsLeast (IsAgainBefore groups end) again
    → IsLeast (IsAgainBefore groups (end + 1)) again
again_unnamed groups end g again at none least = again_other groups end again (λ is. none_here groups end g is.id at none is.has) least

-- nor has one whose id was missing
pub again_put : (groups : List Tree) (end : ℕ) (new : List ℕ) (again : Option ℕ) → HasId groups new end → IsFirstBefore groups end new None → IsLeast (IsAgainBefore groups end) again
    → IsLeast (IsAgainBefore groups (end + 1)) again
again_put groups end new again has missing least =
    again_other groups end again (λ is. missing is.earlier is.before (subst (λ id. HasId groups id is.earlier) (same_id groups end is.id new is.has has) is.earlier_has)) least

-- one whose id was there has that of an earlier one
pub is_again : (groups : List Tree) (end : ℕ) (there : List ℕ) (place : ℕ) → HasId groups there end → IsFirstBefore groups end there (Some place) → IsAgain groups end
is_again groups end there place has before = record { id = there; earlier = place; before = before.0; earlier_has = before.1.has; has = has }

-- nothing is before the first place
pub nothing_first : (groups : List Tree) (id : List ℕ) → IsFirstBefore groups 0 id None
nothing_first groups id = λ place less. absurd (omega (arith, less))

pub nothing_again : (groups : List Tree) → IsLeast (IsAgainBefore groups 0) None
nothing_again groups = λ place h. absurd (omega (arith, h.0))

-- one place is the first that has the id
same_first : (groups : List Tree) (id : List ℕ) (one other : ℕ) → IsFirstWith groups id one → IsFirstWith groups id other → one ≡ other
same_first groups id one other a b =
    ⊎_elim (λ e. e) (λ apart. ⊎_elim (λ less. absurd (b.first one less a.has)) (λ more. absurd (a.first other more b.has)) apart) (cases_order one other)

-- past the end all groups are before

pub all_first : (groups : List Tree) (end : ℕ) (id : List ℕ) (found : Option ℕ) → length groups ≤ end → IsFirstBefore groups end id found → (place : ℕ) → (found ≡ Some place) ↔ IsFirstWith groups id place
all_first groups end id None past before place =
    (λ e. cc, λ is. absurd (before place (omega (arith, past, slice_get_within groups place is.has.0 is.has.1)) is.has))
all_first groups end id (Some p) past before place =
    (λ e. subst (IsFirstWith groups id) (same_Some _ _ e) before.1, λ is. ap Some (same_first groups id p place before.1 is))

within : (groups : List Tree) (end place : ℕ) → length groups ≤ end → IsAgain groups place → place < end
within groups end place past is = omega (arith, past, slice_get_within groups place is.has.0 is.has.1)

pub all_again : (groups : List Tree) (end : ℕ) (again : Option ℕ) → length groups ≤ end → IsLeast (IsAgainBefore groups end) again → IsLeast (IsAgain groups) again
all_again groups end None past least = λ place is. least place (within groups end place past is, is)
all_again groups end (Some p) past least = (least.0.1, λ place is. least.1 place (within groups end place past is, is))

-- what a test of an option tells

pub is_missing : {A : Type 0} (found : Option A) → is_some found ≡ false → found ≡ None
is_missing None e = refl
is_missing (Some x) e = cc

pub is_there : {A : Type 0} (found : Option A) → is_some found ≡ true → (x : A) × (found ≡ Some x)
is_there None e = cc
is_there (Some x) e = (x, refl)
