-- The acts of declarations in rising order of key, and those of a library among them.
use Rattle.std.proofs.Common.{◌≡◌, Bool, true, false, cond, if◌then◌else◌, List, [], ◌∷◌, ◌++◌, Option, Some, None, map, refl, sym, ap, ap₂, subst, ◌∙◌, append_assoc, ◌&&◌}
use Rattle.std.proofs.lemmas.List.{reverse-append}
use Rattle.std.specs.Borrow.{Bor}
use Rattle.std.specs.Cmp.{tied_itself}
use Rattle.std.specs.FinMap.{find, is_sorted}
use Rattle.std.specs.FinMap.Entries.{below_all}
use Rattle.std.specs.Option.{option_map, option_or}
use Rattle.std.specs.Ordering.{eq_by_cmp, is_eq, is_lt, ordering_reverse}
use Rattle.std.specs.Prelude.{IsTrue}
use Rattle.std.specs.declared.cmp.Ordering.{Ordering}
use Rattle.std.specs.declared.cmp.Ordering.TheVariants.{Less, Equal, Greater}
use Rattle.odd_text.specs.Key.{key_cmp}
use Rattle.odd_text.specs.KeyOrder.{key_exact, key_total}
use Rattle.odd_text.specs.declared.key.Key.{Key}
use Rattle.odd_text.proofs.Rise.{IsAboveAll, IsBelowAll, Rises, above_before, above_push, rises_of}
use Rattle.odd_library.proofs.OffenceOrder.{key_itself, same_key}
use Rattle.odd_library.specs.declared.library.Component.{Component}
use Rattle.odd_library.specs.declared.odd.Entry.{Entry}
use Rattle.odd_library.specs.declared.odd.Entry.TheVariants as entry
use Rattle.odd_library.specs.declared.spec.Spec.{Spec}
use Rattle.odd_modes.specs.After.{spec_at}
use Rattle.odd_modes.specs.Index.{is_listed, kept_at, put_over}
use Rattle.odd_modes.specs.Layering.{AreBelow, AreRising, acts_of, is_at, is_below, last_of, specs_of, still_to_put, waiting}
use Rattle.odd_modes.specs.declared.references.References.{References}
use Rattle.odd_modes.specs.declared.sweeping.Act.{Act}
use Rattle.odd_modes.specs.declared.sweeping.Act.TheVariants.{Keep, Put}
use Rattle.odd_modes.proofs.Finds.{at_first, found_more, none_above, none_below}
use Rattle.odd_modes.proofs.SpecAt.{last_alone}

abbrev Acts : Type 0
Acts = List (Key × Act Spec)

-- the last declaration for a key is that of the items
pub last_among : (items : List Entry) (key : Key) → last_of (specs_of items) key ≡ spec_at items key
last_among [] key = refl
last_among (entry.Module at name p ∷ rest) key = last_among rest key ∙ last_alone (spec_at rest key)
last_among (entry.Take at taken ∷ rest) key = last_among rest key ∙ last_alone (spec_at rest key)
last_among (entry.Spec at s ∷ rest) key = ap (λ o. option_or o (if eq_by_cmp key_cmp key s.key then Some s else None)) (last_among rest key)

-- what is not below and does not tie is above
above_by : (r s : Ordering) → r ≡ ordering_reverse s → is_lt s ≡ false → is_eq s ≡ false → r ≡ Less
above_by r Less e n t = cc
above_by r Equal e n t = cc
above_by r Greater e n t = e

above_key : (k q : Key) → is_lt (key_cmp k q) ≡ false → eq_by_cmp key_cmp k q ≡ false → key_cmp q k ≡ Less
above_key k q n t = above_by (key_cmp q k) (key_cmp k q) (key_total.antisymm q k) n t

-- the acts of some declarations begin at the key of the first
pub record BeginsAt (key : Key) (acts : Acts) : Type 0 where
  pub act : Act Spec
  pub rest : Acts
  pub is : acts ≡ (key, act) ∷ rest

begins_at : (s : Spec) (rest : List Spec) → BeginsAt s.key (acts_of (s ∷ rest))
begins_at s [] = record { act = Put s; rest = []; is = refl }
begins_at s (t ∷ rest) = by_next (begins_at t rest) (eq_by_cmp key_cmp t.key s.key) refl
  where
    by_next : BeginsAt t.key (acts_of (t ∷ rest)) → (b : Bool) → eq_by_cmp key_cmp t.key s.key ≡ b → BeginsAt s.key (if b then acts_of (t ∷ rest) else (s.key, Put s) ∷ acts_of (t ∷ rest))
    by_next next true e = subst (λ k. BeginsAt k (acts_of (t ∷ rest))) (same_key t.key s.key e) next
    by_next next false e = record { act = Put s; rest = acts_of (t ∷ rest); is = refl }

-- where the first is above a key, all are
begun_above : (key k : Key) (acts : Acts) → BeginsAt k acts → Rises key_cmp acts → key_cmp key k ≡ Less → IsBelowAll key_cmp key acts
begun_above key k acts b r l = subst (IsBelowAll key_cmp key) (sym b.is) (l, chained b.rest (subst (Rises key_cmp) b.is r).0)
  where
    chained : (es : Acts) → IsBelowAll key_cmp k es → IsBelowAll key_cmp key es
    chained [] h = tt
    chained (e ∷ es) h = (key_total.trans key k e.0 l h.0, chained es h.1)

pub rest_above : (specs : List Spec) (key : Key) → Rises key_cmp (acts_of specs) → is_below specs key ≡ false → is_at specs key ≡ false → IsBelowAll key_cmp key (acts_of specs)
rest_above [] key r n t = tt
rest_above (s ∷ rest) key r n t = begun_above key s.key (acts_of (s ∷ rest)) (begins_at s rest) r (above_key s.key key n t)

-- acts of declarations that rise do
pub acts_rise : (specs : List Spec) → AreRising specs → Rises key_cmp (acts_of specs)
acts_rise [] h = tt
acts_rise (s ∷ []) h = (tt, tt)
acts_rise (s ∷ t ∷ rest) h = by_next (acts_rise (t ∷ rest) h.1) (eq_by_cmp key_cmp t.key s.key) refl
  where
    by_next : Rises key_cmp (acts_of (t ∷ rest)) → (b : Bool) → eq_by_cmp key_cmp t.key s.key ≡ b → Rises key_cmp (if b then acts_of (t ∷ rest) else (s.key, Put s) ∷ acts_of (t ∷ rest))
    by_next rises true e = rises
    by_next rises false e = (rest_above (t ∷ rest) s.key rises h.0 e, rises)

-- with a declaration for the key first there is one
some_last : (specs : List Spec) (key : Key) → is_at specs key ≡ true → (s : Spec) × (last_of specs key ≡ Some s)
some_last [] key h = cc
some_last (s ∷ rest) key h = by_later (last_of rest key) refl
  where
    own : (if eq_by_cmp key_cmp key s.key then Some s else None) ≡ Some s
    own = ap (λ b. if b then Some s else None) (key_itself key s.key (sym (same_key s.key key h)))

    by_later : (o : Option Spec) → last_of rest key ≡ o → (one : Spec) × (last_of (s ∷ rest) key ≡ Some one)
    by_later None e = (s, ap (λ o. option_or o (if eq_by_cmp key_cmp key s.key then Some s else None)) e ∙ own)
    by_later (Some one) e = (one, ap (λ o. option_or o (if eq_by_cmp key_cmp key s.key then Some s else None)) e)

-- without the first of them declarations rise, and the next is not below it
rest_rises : (s : Spec) (rest : List Spec) → AreRising (s ∷ rest) → AreRising rest
rest_rises s [] h = tt
rest_rises s (t ∷ rest) h = h.1

not_below : (s : Spec) (rest : List Spec) → AreRising (s ∷ rest) → is_below rest s.key ≡ false
not_below s [] h = refl
not_below s (t ∷ rest) h = h.0

-- at each key the last declaration is put
pub acts_found : (specs : List Spec) (key : Key) → AreRising specs → find key_cmp key (acts_of specs) ≡ option_map Put (last_of specs key)
acts_found [] key h = refl
acts_found (s ∷ rest) key h = by_key (acts_found rest key (rest_rises s rest h)) (is_at rest s.key) (eq_by_cmp key_cmp key s.key) refl refl
  where
    with_own : (o : Option Spec) (t : Bool) → eq_by_cmp key_cmp key s.key ≡ t → last_of rest key ≡ o → last_of (s ∷ rest) key ≡ option_or o (if t then Some s else None)
    with_own o t tie is = ap (λ b. option_or (last_of rest key) (if b then Some s else None)) tie ∙ ap (λ x. option_or x (if t then Some s else None)) is

    none_put : (o : Option Spec) → option_map Put o ≡ None → o ≡ None
    none_put None e = refl
    none_put (Some t) e = cc

    by_key : find key_cmp key (acts_of rest) ≡ option_map Put (last_of rest key) → (b t : Bool) → is_at rest s.key ≡ b → eq_by_cmp key_cmp key s.key ≡ t
        → find key_cmp key (if b then acts_of rest else (s.key, Put s) ∷ acts_of rest) ≡ option_map Put (last_of (s ∷ rest) key)
    by_key later true true e tie =
        let one = some_last rest key (ap (is_at rest) (same_key key s.key tie) ∙ e) in
        later ∙ ap (option_map Put) (one.1 ∙ sym (with_own (Some one.0) true tie one.1))
    by_key later true false e tie = later ∙ ap (option_map Put) (last_alone (last_of rest key) ∙ sym (with_own (last_of rest key) false tie refl))
    by_key later false true e tie =
        let same : key ≡ s.key = same_key key s.key tie in
        let above = rest_above rest s.key (acts_rise rest (rest_rises s rest h)) (not_below s rest h) e in
        let none = none_put (last_of rest key) (sym later ∙ none_below key_cmp key_total key_exact key (acts_of rest) (subst (λ k. IsBelowAll key_cmp k (acts_of rest)) (sym same) above)) in
        ap (λ t. cond t (Some (Put s)) (find key_cmp key (acts_of rest))) tie ∙ ap (option_map Put) (sym (with_own None true tie none))
    by_key later false false e tie =
        ap (λ t. cond t (Some (Put s)) (find key_cmp key (acts_of rest))) tie ∙ later
        ∙ ap (option_map Put) (last_alone (last_of rest key) ∙ sym (with_own (last_of rest key) false tie refl))

-- between two lists an act is found at its key, and at the others what was found there
pub found_between : {X : Type 0} (key q : Key) (v : X) (front back : List (Key × X)) → IsAboveAll key_cmp front q
    → find key_cmp key (front ++ (q, v) ∷ back) ≡ cond (eq_by_cmp key_cmp key q) (Some v) (find key_cmp key (front ++ back))
found_between key q v [] back above = refl
found_between {X} key q v (e ∷ front) back above =
    ap (cond (eq_by_cmp key_cmp key e.0) (Some e.1)) (found_between key q v front back above.1) ∙ by_both (eq_by_cmp key_cmp key e.0) (eq_by_cmp key_cmp key q) refl refl
  where
    by_both : (a b : Bool) → eq_by_cmp key_cmp key e.0 ≡ a → eq_by_cmp key_cmp key q ≡ b
        → cond a (Some e.1) (cond b (Some v) (find key_cmp key (front ++ back))) ≡ cond b (Some v) (cond a (Some e.1) (find key_cmp key (front ++ back)))
    by_both true true h k =
        let both : e.0 ≡ q = sym (same_key key e.0 h) ∙ same_key key q k in
        let tie : key_cmp q q ≡ Less = subst (λ x. key_cmp x q ≡ Less) both above.0 in
        let no : Less ≡ Equal = sym tie ∙ tied_itself key_total q in
        cc
    by_both true false h k = refl
    by_both false true h k = refl
    by_both false false h k = refl

-- a pair below the key is passed
past_below : {X : Type 0} (q : Key) (e : Key × X) (es : List (Key × X)) → key_cmp e.0 q ≡ Less → find key_cmp q (e ∷ es) ≡ find key_cmp q es
past_below q e es h = ap (λ r. cond (is_eq r) (Some e.1) (find key_cmp q es)) (key_total.antisymm q e.0 ∙ ap ordering_reverse h)

-- nothing is found among those below a key or above it
pub found_nowhere : {X : Type 0} (q : Key) (front back : List (Key × X)) → IsAboveAll key_cmp front q → IsBelowAll key_cmp q back → find key_cmp q (front ++ back) ≡ None
found_nowhere q [] back above below = none_below key_cmp key_total key_exact q back below
found_nowhere q (e ∷ front) back above below = past_below q e (front ++ back) above.0 ∙ found_nowhere q front back above.1 below

-- it rises with a key between
pub between_rises : {X : Type 0} (q : Key) (v : X) (front back : List (Key × X)) → Rises key_cmp (front ++ back) → IsAboveAll key_cmp front q → IsBelowAll key_cmp q back
    → Rises key_cmp (front ++ (q, v) ∷ back)
between_rises q v [] back r above below = (below, r)
between_rises {X} q v (e ∷ front) back r above below = (all_between front r.0, between_rises q v front back r.1 above.1 below)
  where
    all_between : (es : List (Key × X)) → IsBelowAll key_cmp e.0 (es ++ back) → IsBelowAll key_cmp e.0 (es ++ (q, v) ∷ back)
    all_between [] h = (above.0, h)
    all_between (f ∷ es) h = (h.0, all_between es h.1)

-- the next declaration is found at its key, where all before it are below
pub next_found : (front : Acts) (specs : List Spec) (key : Key) → is_at specs key ≡ true → IsAboveAll key_cmp front key → (a : Act Spec) × (find key_cmp key (front ++ acts_of specs) ≡ Some a)
next_found front [] key at above = cc
next_found [] (s ∷ rest) key at above =
    let b = begins_at s rest in
    let same : s.key ≡ key = same_key s.key key at in
    (b.act, ap (find key_cmp key) b.is ∙ at_first key_cmp key_total key_exact key (s.key, b.act) b.rest (subst (λ k. key_cmp k s.key ≡ Equal) same (tied_itself key_total s.key)))
next_found (e ∷ front) (s ∷ rest) key at above =
    let f = next_found front (s ∷ rest) key at above.1 in
    (f.0, past_below key e (front ++ acts_of (s ∷ rest)) above.0 ∙ f.1)

-- of the declarations that are still to be put the last of the list is the first
pub put_first : (specs : List (Bor Spec)) (s : Bor Spec) → still_to_put (specs ++ s ∷ []) ≡ s.now ∷ still_to_put specs
put_first specs s = ap (map (λ b. b.now)) (reverse-append specs (s ∷ []))

-- it is put where none of its key follows
pub put_here : (layer : Acts) (specs rest : List Spec) (s : Spec) → specs ≡ s ∷ rest → is_at rest s.key ≡ false → waiting layer specs ≡ layer ++ (s.key, Put s) ∷ acts_of rest
put_here layer specs rest s is next = ap (waiting layer) is ∙ ap (λ b. layer ++ (if b then acts_of rest else (s.key, Put s) ∷ acts_of rest)) next

-- its key is above those before it
pub put_above : (layer : Acts) (specs rest : List Spec) (s : Spec) → specs ≡ s ∷ rest → is_at rest s.key ≡ false → IsTrue (is_sorted key_cmp (waiting layer specs)) → IsAboveAll key_cmp layer s.key
put_above layer specs rest s is next rising =
    above_before key_cmp layer (acts_of rest) s.key (Put s) (rises_of key_cmp _ (subst (λ es. IsTrue (is_sorted key_cmp es)) (put_here layer specs rest s is next) rising))

-- what is less is below
pub is_less : (r : Ordering) → is_lt r ≡ true → r ≡ Less
is_less Less e = refl
is_less Equal e = cc
is_less Greater e = cc

-- entries that rise are sorted
all_below : {X : Type 0} (x : Key) (es : List (Key × X)) → IsBelowAll key_cmp x es → below_all key_cmp x es ≡ true
all_below x [] h = refl
all_below x (e ∷ es) h = ap₂ (λ r b. is_lt r && b) h.0 (all_below x es h.1)

sorted_is : {X : Type 0} (es : List (Key × X)) → Rises key_cmp es → IsTrue (is_sorted key_cmp es)
sorted_is [] h = refl
sorted_is (e ∷ es) h = ap₂ (λ a b. a && b) (all_below e.0 es h.0) (sorted_is es h.1)

-- the end of what rises does
back_rises : {X : Type 0} (front back : List (Key × X)) → Rises key_cmp (front ++ back) → Rises key_cmp back
back_rises [] back r = r
back_rises (e ∷ front) back r = back_rises front back r.1

-- the acts so far, where so many parts of the library were passed
pub record AreActs (refs : References) (entries : List Entry) (passed : List (Key × Component)) (layer : Acts) (specs : List Spec) : Type 0 where
  pub rising : IsTrue (is_sorted key_cmp (waiting layer specs))
  pub acts : (key : Key) → find key_cmp key (waiting layer specs) ≡ put_over (spec_at entries key) (kept_at refs key (find key_cmp key passed))
  pub bound : (key : Key) → IsAboveAll key_cmp passed key → AreBelow layer key

-- at first no part was passed
pub none_passed : (refs : References) (entries : List Entry) (specs : List Spec) → AreRising specs → ((key : Key) → last_of specs key ≡ spec_at entries key) → AreActs refs entries [] [] specs
none_passed refs entries specs rising last = record {
  rising = sorted_is (acts_of specs) (acts_rise specs rising);
  acts = λ key. acts_found specs key rising ∙ ap (option_map Put) (last key) ∙ over_none (spec_at entries key) key;
  bound = λ key above. tt;
}
  where
    over_none : (o : Option Spec) (key : Key) → option_map Put o ≡ put_over o (kept_at refs key None)
    over_none None key = refl
    over_none (Some s) key = refl

-- what is above all keys is above the last
last_below : {X : Type 0} (key bound : Key) (x : X) (es : List (Key × X)) → IsAboveAll key_cmp (es ++ (key, x) ∷ []) bound → key_cmp key bound ≡ Less
last_below key bound x [] h = h.0
last_below key bound x (e ∷ es) h = last_below key bound x es h.1

-- a part more is passed
module _ (refs : References) (entries : List Entry) (passed : List (Key × Component)) (key : Key) (part : Component) (above : IsAboveAll key_cmp passed key) (layer : Acts) (specs : List Spec)
    (rising : IsTrue (is_sorted key_cmp (waiting layer specs)))
    (acts : (asked : Key) → find key_cmp asked (waiting layer specs) ≡ put_over (spec_at entries asked) (kept_at refs asked (find key_cmp asked passed)))
    (below : AreBelow layer key) where
  -- the bound of what stands below the key
  bound_more : (bound : Key) → IsAboveAll key_cmp (passed ++ (key, part) ∷ []) bound → AreBelow layer bound
  bound_more bound all = chained layer below
    where
      chained : (es : Acts) → AreBelow es key → AreBelow es bound
      chained [] h = tt
      chained (e ∷ es) h = (key_total.trans e.0 key bound h.0 (last_below key bound part passed all), chained es h.1)

  -- nothing was found at its key before
  fresh : (asked : Key) → eq_by_cmp key_cmp asked key ≡ true → find key_cmp asked passed ≡ None
  fresh asked tie = ap (λ k. find key_cmp k passed) (same_key asked key tie) ∙ none_above key_cmp key_total key_exact key passed above

  -- with one part more the same is asked of another key
  others : (asked : Key) → eq_by_cmp key_cmp asked key ≡ false
      → put_over (spec_at entries asked) (kept_at refs asked (find key_cmp asked passed)) ≡ put_over (spec_at entries asked) (kept_at refs asked (find key_cmp asked (passed ++ (key, part) ∷ [])))
  others asked tie =
      ap (λ o. put_over (spec_at entries asked) (kept_at refs asked o)) (sym (found_more key_cmp key_total key_exact asked key part passed above ∙ ap (λ b. cond b (Some part) (find key_cmp asked passed)) tie))

  -- and of its own key the part is
  itself : (asked : Key) → eq_by_cmp key_cmp asked key ≡ true → find key_cmp asked (passed ++ (key, part) ∷ []) ≡ Some part
  itself asked tie = found_more key_cmp key_total key_exact asked key part passed above ∙ ap (λ b. cond b (Some part) (find key_cmp asked passed)) tie

  -- the acts stay, where they are right at its key
  stay : ((asked : Key) → eq_by_cmp key_cmp asked key ≡ true → find key_cmp asked (waiting layer specs) ≡ put_over (spec_at entries asked) (kept_at refs asked (Some part)))
      → AreActs refs entries (passed ++ (key, part) ∷ []) layer specs
  stay own = record { rising = rising; acts = λ asked. by_tie asked (eq_by_cmp key_cmp asked key) refl; bound = bound_more }
    where
      by_tie : (asked : Key) (b : Bool) → eq_by_cmp key_cmp asked key ≡ b
          → find key_cmp asked (waiting layer specs) ≡ put_over (spec_at entries asked) (kept_at refs asked (find key_cmp asked (passed ++ (key, part) ∷ [])))
      by_tie asked true tie = own asked tie ∙ ap (λ o. put_over (spec_at entries asked) (kept_at refs asked o)) (sym (itself asked tie))
      by_tie asked false tie = acts asked ∙ others asked tie

  -- a declaration at its key is put in place of it
  pub one_put : is_at specs key ≡ true → AreActs refs entries (passed ++ (key, part) ∷ []) layer specs
  one_put at = stay (λ asked tie. acts asked ∙ ap (λ o. put_over (spec_at entries asked) (kept_at refs asked o)) (fresh asked tie) ∙ by_spec asked (spec_at entries asked) (found asked tie))
    where
      found : (asked : Key) → eq_by_cmp key_cmp asked key ≡ true → (a : Act Spec) × (put_over (spec_at entries asked) None ≡ Some a)
      found asked tie =
          let same : asked ≡ key = same_key asked key tie in
          let f = next_found layer specs key at below in
          (f.0, ap (λ o. put_over (spec_at entries asked) (kept_at refs asked o)) (sym (fresh asked tie)) ∙ sym (acts asked) ∙ ap (λ k. find key_cmp k (waiting layer specs)) same ∙ f.1)

      by_spec : (asked : Key) (o : Option Spec) → (a : Act Spec) × (put_over o None ≡ Some a) → put_over o None ≡ put_over o (kept_at refs asked (Some part))
      by_spec asked None f = let no : None ≡ Some f.0 = f.1 in cc
      by_spec asked (Some s) f = refl

  module _ (rest : is_below specs key ≡ false) (next : is_at specs key ≡ false) where
    later : IsBelowAll key_cmp key (acts_of specs)
    later = rest_above specs key (back_rises layer (acts_of specs) (rises_of key_cmp _ rising)) rest next

    -- so none is declared
    undeclared : (asked : Key) → eq_by_cmp key_cmp asked key ≡ true → spec_at entries asked ≡ None
    undeclared asked tie =
        let same : asked ≡ key = same_key asked key tie in
        by_spec (spec_at entries asked)
        (ap (λ o. put_over (spec_at entries asked) (kept_at refs asked o)) (sym (fresh asked tie)) ∙ sym (acts asked) ∙ ap (λ k. find key_cmp k (waiting layer specs)) same ∙ found_nowhere key layer (acts_of specs) below later)
      where
        by_spec : (o : Option Spec) → put_over o None ≡ None → o ≡ None
        by_spec None e = refl
        by_spec (Some s) e = cc

    listed_as : (asked : Key) (b : Bool) → is_listed refs key part ≡ b → eq_by_cmp key_cmp asked key ≡ true → put_over (spec_at entries asked) (kept_at refs asked (Some part)) ≡ (if b then Some Keep else None)
    listed_as asked b listed tie =
        ap (λ o. put_over o (kept_at refs asked (Some part))) (undeclared asked tie)
        ∙ ap (λ t. if t then Some Keep else None) (ap (λ k. is_listed refs k part) (same_key asked key tie) ∙ listed)

    -- a part to which no reference is listed is left
    pub one_left : is_listed refs key part ≡ false → AreActs refs entries (passed ++ (key, part) ∷ []) layer specs
    one_left listed = stay (λ asked tie.
        ap (λ k. find key_cmp k (waiting layer specs)) (same_key asked key tie) ∙ found_nowhere key layer (acts_of specs) below later ∙ sym (listed_as asked false listed tie))

    -- and another is kept
    pub one_kept : is_listed refs key part ≡ true → AreActs refs entries (passed ++ (key, part) ∷ []) (layer ++ (key, Keep) ∷ []) specs
    one_kept listed = record {
      rising = subst (λ es. IsTrue (is_sorted key_cmp es)) (sym whole) (sorted_is _ (between_rises key Keep layer (acts_of specs) (rises_of key_cmp _ rising) below later));
      acts = λ asked. ap (find key_cmp asked) whole ∙ found_between asked key Keep layer (acts_of specs) below ∙ by_tie asked (eq_by_cmp key_cmp asked key) refl;
      bound = λ bound all. above_push key_cmp layer bound key Keep (bound_more bound all) (last_below key bound part passed all);
    }
      where
        whole : waiting (layer ++ (key, Keep) ∷ []) specs ≡ layer ++ (key, Keep) ∷ acts_of specs
        whole = append_assoc layer ((key, Keep) ∷ []) (acts_of specs)

        by_tie : (asked : Key) (b : Bool) → eq_by_cmp key_cmp asked key ≡ b
            → cond b (Some Keep) (find key_cmp asked (waiting layer specs)) ≡ put_over (spec_at entries asked) (kept_at refs asked (find key_cmp asked (passed ++ (key, part) ∷ [])))
        by_tie asked true tie = sym (ap (λ o. put_over (spec_at entries asked) (kept_at refs asked o)) (itself asked tie) ∙ listed_as asked true listed tie)
        by_tie asked false tie = acts asked ∙ others asked tie
