-- An element of a file stands at one place: two that begin there are one. What is found stands in the file, and its places rise.
use Rattle.std.proofs.Common.{◌≡◌, ℕ, suc, ◌<◌, ◌≤◌, ◌⊎◌, inl, inr, ⊎_elim, Bool, true, false, if◌then◌else◌, List, [], ◌∷◌, ◌++◌, refl, sym, subst, ◌∙◌, arith}
use Rattle.odd_text.specs.declared.name.Bind.{Bind}
use Rattle.odd_tree.proofs.InTree.{with_element, with_text}
use Rattle.odd_text.proofs.InList.{first_or_later, nothing_stands, only_item, stands_first, stands_later, stands_map}
use Rattle.odd_text.specs.Standing.{StandsIn}
use Rattle.odd_tree.specs.Elements.{children_of, elements_of, within}
use Rattle.odd_tree.specs.Formed.{AreFormed, IsFormed}
use Rattle.odd_tree.specs.Formed as formed
use Rattle.odd_tree.specs.declared.tree.Node.{Node}
use Rattle.odd_tree.specs.declared.tree.Tree.{Tree, out-Tree}
use Rattle.odd_forms.specs.Names.{is_one_of}
use Rattle.odd_items.proofs.ByNames as by_names
use Rattle.odd_items.specs.Groups.{HoldsItems, IsItemIn, declaration_names, group_names, schema_names}
use Rattle.odd_items.specs.Groups as groups
use Rattle.odd_items.specs.Search.{Finds, FindsAmong, Found, children_found, own}
use Rattle.odd_items.specs.Search as search

-- an element stands in another, at any depth, or is it, with what is declared around it
pub data StandsUnder : List Bind → Tree → Found → Type 0 where
  itself : {outer : List Bind} {t : Tree} → StandsUnder outer t (record { around = outer; element = t })
  inside : {outer : List Bind} {t : Tree} {f : Found} (child : Tree) → StandsIn (children_of t) child → StandsUnder (within outer t) child f → StandsUnder outer t f

-- an element begins at its first place or after it
element_begins : {first end : ℕ} {t : Tree} → IsFormed first end t → first ≤ (out-Tree t).at
element_begins (formed.element h tag apart nodes) = h

-- where a place stands between two others, the first is not above the last
room_from : {first at end : ℕ} → first ≤ at → suc at ≤ end → first ≤ end
room_from h k = omega arith

-- what is formed between two places has room there
mutual
  element_room : {first end : ℕ} {t : Tree} → IsFormed first end t → suc (out-Tree t).at ≤ end
  element_room (formed.element h tag apart nodes) = nodes_room nodes

  nodes_room : {first end : ℕ} {nodes : List Node} → AreFormed first end nodes → first ≤ end
  nodes_room (formed.nothing h) = h
  nodes_room (formed.text later) = nodes_room later
  nodes_room (formed.child between one later) = let h = room_from (element_begins one) (element_room one) in let k = nodes_room later in omega (arith, h, k)

-- a formed element leaves room between its places
pub formed_room : (first end : ℕ) (t : Tree) → IsFormed first end t → first ≤ end
formed_room first end t h = room_from (element_begins h) (element_room h)

-- the element is formed, between some places that stand between these two
record IsFormedIn (first end : ℕ) (t : Tree) : Type 0 where
  pub low : ℕ
  pub high : ℕ
  pub from : first ≤ low
  pub to : high ≤ end
  pub is_formed : IsFormed low high t

-- each of the elements among formed nodes is
child_formed : {first end : ℕ} {nodes : List Node} → AreFormed first end nodes → (child : Tree) → StandsIn (elements_of nodes) child → IsFormedIn first end child
child_formed (formed.nothing h) child s = absurd (nothing_stands child s)
child_formed (formed.text {bytes = bytes} {nodes = nodes} later) child s = child_formed later child (subst (λ ts. StandsIn ts child) (with_text bytes nodes) s)
child_formed {first = first} {end = end} (formed.child {t = t} {nodes = nodes} between one later) child s =
    let room = formed_room first between t one in
    ⊎_elim
    (λ e. subst (IsFormedIn first end) (sym e) (record { low = first; high = between; from = omega arith; to = nodes_room later; is_formed = one }))
    (λ after. let c = child_formed later child after in record { low = c.low; high = c.high; from = omega (arith, room, c.from); to = c.to; is_formed = c.is_formed })
    (first_or_later t child (elements_of nodes) (subst (λ ts. StandsIn ts child) (with_element t nodes) s))

-- what stands in a formed element begins with it or after it, and before its end
under_places : {outer : List Bind} {t : Tree} {f : Found} → StandsUnder outer t f → (first end : ℕ) → IsFormed first end t → ((out-Tree t).at ≤ (out-Tree f.element).at) × (suc (out-Tree f.element).at ≤ end)
under_places itself first end h = (omega arith, element_room h)
under_places (inside child s d) first end (formed.element h tag apart nodes) =
    let c = child_formed nodes child s in
    let b = element_begins c.is_formed in
    let p = under_places d c.low c.high c.is_formed in
    (omega (arith, c.from, b, p.0), omega (arith, p.1, c.to))

-- what stands in an element begins between the places between which that is formed
between_places : {first end : ℕ} {outer : List Bind} {child : Tree} {f : Found} → IsFormedIn first end child → StandsUnder outer child f
    → (first ≤ (out-Tree f.element).at) × (suc (out-Tree f.element).at ≤ end)
between_places c d =
    let b = element_begins c.is_formed in
    let p = under_places d c.low c.high c.is_formed in
    (omega (arith, c.from, b, p.0), omega (arith, p.1, c.to))

-- one of several elements is the first of them, or one of the others
one_or_later : (all ts : List Tree) (t child : Tree) → all ≡ t ∷ ts → StandsIn all child → (child ≡ t) ⊎ StandsIn ts child
one_or_later all ts t child e s = first_or_later t child ts (subst (λ us. StandsIn us child) e s)

-- where what stands in two of some formed nodes begins at one place, the two are one
module _ (outer : List Bind) (f g : Found) (same : (out-Tree f.element).at ≡ (out-Tree g.element).at) (c d : Tree) (under : StandsUnder outer c f) (under_other : StandsUnder outer d g) where
  pub same_child : {first end : ℕ} {nodes : List Node} → AreFormed first end nodes → StandsIn (elements_of nodes) c → StandsIn (elements_of nodes) d → c ≡ d
  same_child (formed.nothing h) s k = absurd (nothing_stands c s)
  same_child (formed.text {bytes = bytes} {nodes = nodes} later) s k =
      same_child later (subst (λ ts. StandsIn ts c) (with_text bytes nodes) s) (subst (λ ts. StandsIn ts d) (with_text bytes nodes) k)
  same_child {first = first} {end = end} (formed.child {t = t} {nodes = nodes} between one later) s k =
      ⊎_elim
      (λ e. ⊎_elim (λ i. e ∙ sym i) (λ after. absurd (apart c d f g under under_other same e after)) (one_or_later _ (elements_of nodes) t d (with_element t nodes) k))
      (λ after. ⊎_elim (λ i. absurd (apart d c g f under_other under (sym same) i after)) (λ both. same_child later after both) (one_or_later _ (elements_of nodes) t d (with_element t nodes) k))
      (one_or_later _ (elements_of nodes) t c (with_element t nodes) s)
    where
      -- the first child and a later one
      apart : (a b : Tree) (p q : Found) → StandsUnder outer a p → StandsUnder outer b q → (out-Tree p.element).at ≡ (out-Tree q.element).at → a ≡ t → StandsIn (elements_of nodes) b → ⊥
      apart a b p q u v at e after =
          let low = under_places (subst (λ x. StandsUnder outer x p) e u) first between one in
          let high = between_places (child_formed later b after) v in
          omega (arith, low.1, high.0, at)

-- in a formed tree two that begin at one place are one
pub same_place : (first end : ℕ) (outer : List Bind) (t : Tree) (f g : Found) → IsFormed first end t → StandsUnder outer t f → StandsUnder outer t g
    → (out-Tree f.element).at ≡ (out-Tree g.element).at → f ≡ g
same_place first end outer t f g h u v same = in_both u first end g h v same
  where
    in_both : {outer : List Bind} {t : Tree} {f : Found} → StandsUnder outer t f → (first end : ℕ) (g : Found) → IsFormed first end t → StandsUnder outer t g
        → (out-Tree f.element).at ≡ (out-Tree g.element).at → f ≡ g
    in_both itself first end g h itself same = refl
    in_both itself first end g (formed.element h tag apart nodes) (inside child s d) same = let p = between_places (child_formed nodes child s) d in absurd (omega (arith, p.0, same))
    in_both (inside child s d) first end g (formed.element h tag apart nodes) itself same = let p = between_places (child_formed nodes child s) d in absurd (omega (arith, p.0, same))
    in_both {outer = outer} {t = t} {f = f} (inside child s d) first end g (formed.element h tag apart nodes) (inside other k e) same =
        let c = child_formed nodes child s in
        let one : child ≡ other = same_child (within outer t) f g same child other d e nodes s k in
        in_both d c.low c.high g c.is_formed (subst (λ u. StandsUnder (within outer t) u g) (sym one) e) same

-- a child of one that stands there stands there
pub child_under : (outer : List Bind) (t : Tree) (f c : Found) → StandsUnder outer t f → StandsIn (children_found f) c → StandsUnder outer t c
child_under outer t f c itself s =
    let h = stands_map (λ u. record { around = within outer t; element = u }) (children_of t) c s in
    subst (StandsUnder outer t) (sym h.2) (inside h.0 h.1 itself)
child_under outer t f c (inside child k d) s = inside child k (child_under (within outer t) child f c d s)

-- what stands in two lists, one after the other, stands in one of them
stands_either : (xs ys : List Found) (f : Found) → StandsIn (xs ++ ys) f → StandsIn xs f ⊎ StandsIn ys f
stands_either [] ys f s = inr s
stands_either (x ∷ xs) ys f s =
    ⊎_elim (λ e. inl (subst (StandsIn (x ∷ xs)) (sym e) (stands_first x xs))) (λ later. ⊎_elim (λ k. inl (stands_later x f xs k)) inr (stands_either xs ys f later))
    (first_or_later x f (xs ++ ys) s)

-- the element itself stands there, where it is found
own_under : (names : List (List ℕ)) (outer : List Bind) (t : Tree) (f : Found) → StandsIn (own names outer t) f → StandsUnder outer t f
own_under names outer t f s = by_name (is_one_of names t) s
  where
    by_name : (b : Bool) → StandsIn (if b then (record { around = outer; element = t } ∷ []) else []) f → StandsUnder outer t f
    by_name true k = subst (StandsUnder outer t) (sym (only_item (record { around = outer; element = t }) f k)) itself
    by_name false k = absurd (nothing_stands f k)

-- what is found stands there
mutual
  pub found_under : (names : List (List ℕ)) (outermost : Bool) (outer : List Bind) (t : Tree) (found : List Found) → Finds names outermost outer t found → (f : Found) → StandsIn found f
      → StandsUnder outer t f
  found_under names outermost outer t found (search.passed other) f s = absurd (nothing_stands f s)
  found_under names outermost outer t found (search.outer q o named) f s = subst (StandsUnder outer t) (sym (only_item (record { around = outer; element = t }) f s)) itself
  found_under names outermost outer t found (search.through inner tei apart among is) f s =
      ⊎_elim (λ k. own_under names outer t f k) (λ k. let h = among_under names outermost (within outer t) (children_of t) inner among f k in inside h.0 h.1 h.2)
      (stands_either (own names outer t) inner f (subst (λ fs. StandsIn fs f) is s))

  among_under : (names : List (List ℕ)) (outermost : Bool) (outer : List Bind) (ts : List Tree) (found : List Found) → FindsAmong names outermost outer ts found → (f : Found) → StandsIn found f
      → (child : Tree) × StandsIn ts child × StandsUnder outer child f
  among_under names outermost outer ts found search.nothing f s = absurd (nothing_stands f s)
  among_under names outermost outer ts found (search.element {t = t} {ts = rest} first later one among is) f s =
      ⊎_elim (λ k. (t, stands_first t rest, found_under names outermost outer t first one f k))
      (λ k. let h = among_under names outermost outer rest later among f k in (h.0, stands_later t h.0 rest h.1, h.2)) (stands_either first later f (subst (λ fs. StandsIn fs f) is s))

-- what holds items stands in the file
pub holder_under : (t : Tree) (schema : Found) → StandsUnder [] t schema → (holder : Found) → HoldsItems t schema holder → StandsUnder [] t holder
holder_under t schema u holder groups.itself = u
holder_under t schema u holder (groups.inside outside h s named) = child_under [] t outside holder (holder_under t schema u outside h) s
holder_under t schema u holder (groups.referred outside reference id h s refers group) =
    found_under group_names false [] t (group.before ++ holder ∷ group.after) group.found holder (group.before, group.after, refl)

-- and so does each item
pub item_under : (t : Tree) (schemas : List Found) → Finds schema_names false [] t schemas → (item : Found) → IsItemIn t schemas item → StandsUnder [] t item
item_under t schemas finds item (groups.held {schema = schema} {others = others} holder h s) =
    child_under [] t holder item (holder_under t schema (found_under schema_names false [] t (schema ∷ others) finds schema ([], others, refl)) holder h) s
item_under t schemas finds item (groups.bare found outermost s) = found_under declaration_names true [] t found outermost item s

-- what was found begins between two places, each after the one before it
abbrev LieIn : ℕ → ℕ → List Found → Type 0
LieIn first end [] = first ≤ end
LieIn first end (f ∷ found) = (first ≤ (out-Tree f.element).at) × LieIn (suc (out-Tree f.element).at) end found

-- it lies after an earlier place too
lie_after : (first later end : ℕ) (found : List Found) → first ≤ later → LieIn later end found → LieIn first end found
lie_after first later end [] h k = omega arith
lie_after first later end (f ∷ found) h k = (omega (arith, k.0), k.1)

-- what lies up to a place, and then what lies after it
lie_append : (first between end : ℕ) (found later : List Found) → LieIn first between found → LieIn between end later → LieIn first end (found ++ later)
lie_append first between end [] later h k = lie_after first between end later h k
lie_append first between end (f ∷ found) later h k = (h.0, lie_append (suc (out-Tree f.element).at) between end found later h.1 k)

-- an element lies with what is found in it: first itself, where it has one of the names
own_lie : (names : List (List ℕ)) (around : List Bind) (first end : ℕ) (t : Tree) (inner found : List Found) → first ≤ (out-Tree t).at → LieIn (suc (out-Tree t).at) end inner
    → found ≡ own names around t ++ inner → LieIn first end found
own_lie names around first end t inner found h rest is = subst (LieIn first end) (sym is) (by_name (is_one_of names t))
  where
    by_name : (b : Bool) → LieIn first end ((if b then (record { around = around; element = t } ∷ []) else []) ++ inner)
    by_name true = (h, rest)
    by_name false = lie_after first (suc (out-Tree t).at) end inner (omega (arith, h)) rest

-- what is found in several elements is what is found in the first, and then what is found in the others
abbrev FoundWith : List (List ℕ) → Bool → List Bind → Tree → List Tree → List Found → Type 0
FoundWith names outermost around t ts found = (first : List Found) × (later : List Found) × Finds names outermost around t first × FindsAmong names outermost around ts later × (found ≡ first ++ later)

-- and so it is
found_with : (names : List (List ℕ)) (outermost : Bool) (around : List Bind) (t : Tree) (ts : List Tree) (found : List Found) → FindsAmong names outermost around (t ∷ ts) found
    → FoundWith names outermost around t ts found
found_with names outermost around t ts found (search.element first later one among is) = (first, later, one, among, is)

-- in none nothing is found
none_found : (names : List (List ℕ)) (outermost : Bool) (around : List Bind) (found : List Found) → FindsAmong names outermost around [] found → found ≡ []
none_found names outermost around found search.nothing = refl

-- what is found in a formed element lies between its places
mutual
  found_lie : {names : List (List ℕ)} {outermost : Bool} {around : List Bind} {first end : ℕ} {t : Tree} {found : List Found} → IsFormed first end t → Finds names outermost around t found
      → LieIn first end found
  found_lie (formed.element h tag apart nodes) (search.passed other) = room_from h (nodes_room nodes)
  found_lie (formed.element h tag apart nodes) (search.outer q o named) = (h, nodes_room nodes)
  found_lie {names = names} {around = around} {first = first} {end = end} {t = t} {found = found} (formed.element h tag apart nodes) (search.through inner tei apart_from among is) =
      own_lie names around first end t inner found h (among_lie nodes among) is

  among_lie : {names : List (List ℕ)} {outermost : Bool} {around : List Bind} {first end : ℕ} {nodes : List Node} {found : List Found} → AreFormed first end nodes
      → FindsAmong names outermost around (elements_of nodes) found → LieIn first end found
  among_lie {names = names} {outermost = outermost} {around = around} {first = first} {end = end} {found = found} (formed.nothing h) among =
      subst (LieIn first end) (sym (none_found names outermost around found among)) h
  among_lie {names = names} {outermost = outermost} {around = around} {found = found} (formed.text {bytes = bytes} {nodes = nodes} later) among =
      among_lie later (subst (λ ts. FindsAmong names outermost around ts found) (with_text bytes nodes) among)
  among_lie {names = names} {outermost = outermost} {around = around} {first = first} {end = end} {found = found} (formed.child {t = t} {nodes = nodes} between one later) among =
      let f = found_with names outermost around t (elements_of nodes) found (subst (λ ts. FindsAmong names outermost around ts found) (with_element t nodes) among) in
      subst (LieIn first end) (sym f.4) (lie_append first between end f.0 f.1 (found_lie one f.2) (among_lie later f.3))

-- what lies behind others lies after a place that is no earlier
lie_behind : (first end : ℕ) (before found : List Found) → LieIn first end (before ++ found) → (later : ℕ) × (first ≤ later) × LieIn later end found
lie_behind first end [] found h = (first, omega arith, h)
lie_behind first end (f ∷ before) found h = let k = lie_behind (suc (out-Tree f.element).at) end before found h.1 in (k.0, omega (arith, h.0, k.1), k.2)

-- the places of what is found rise
pub found_rise : (first end : ℕ) (names : List (List ℕ)) (outermost : Bool) (outer : List Bind) (t : Tree) (found : List Found) → IsFormed first end t → Finds names outermost outer t found
    → (before between after : List Found) (f g : Found) → found ≡ before ++ f ∷ (between ++ g ∷ after) → (out-Tree f.element).at < (out-Tree g.element).at
found_rise first end names outermost outer t found h finds before between after f g is =
    let k = lie_behind first end before (f ∷ (between ++ g ∷ after)) (subst (LieIn first end) is (found_lie h finds)) in
    let l = lie_behind (suc (out-Tree f.element).at) end between (g ∷ after) k.2.1 in
    omega (arith, l.1, l.2.0)

-- a search finds one list
pub one_search : (names : List (List ℕ)) (outermost : Bool) (outer : List Bind) (t : Tree) (one other : List Found) → Finds names outermost outer t one → Finds names outermost outer t other → one ≡ other
one_search = by_names.one_search
