-- What the search adds, step by step.
use Rattle.std.proofs.Common.{◌≡◌, ℕ, ◌+◌, ◌<◌, ◌&&◌, Bool, true, false, List, [], ◌∷◌, ◌++◌, map, length, Option, Some, None, Bor, slice_get, refl, sym, ap, subst, ◌∙◌, append_assoc, arith}
use Rattle.std.proofs.lemmas.List.{append-nil, length-append, map-append}
use Rattle.odd_text.specs.declared.name.Bind.{Bind}
use Rattle.odd_tree.specs.Elements.{children_of, within}
use Rattle.odd_tree.specs.declared.tree.Tree.{Tree, out-Tree}
use Rattle.odd_forms.specs.Names.{is_one_of}
use Rattle.odd_items.proofs.Levels.{level_within}
use Rattle.odd_items.proofs.Places.{all_parents, get_left, get_right, parts_append, parts_passed, parts_inside, parts_named, parts_none, parts_outer}
use Rattle.odd_items.specs.Adding.{AddsAmong, AddsKept, ArePartParents, Extends, KeepsIt, LeadsInside, standing_in}
use Rattle.odd_items.specs.Search.{Finds, FindsAmong, Found, is_searched, passed, outer, through, nothing, element}
use Rattle.odd_items.specs.Searching.{AreKept, AreParents, IsAround, outside, inside, none, more}
use Rattle.odd_items.specs.declared.searching.Kept.{Kept}
use Rattle.odd_items.specs.declared.searching.Level.{Level}

-- the texts that references point to
abbrev pub texts : List (Bor (List ℕ)) → List (List ℕ)
texts = map (λ n. n.now)

-- with levels put at the end the others stay what they are
around_more : (levels later : List Level) (at : Option ℕ) (around : List Bind) → IsAround levels at around → IsAround (levels ++ later) at around
around_more levels later at around outside = outside
around_more levels later at around (inside {at = i} {outer = o} l here low h) = inside l (get_left levels later i l here) low (around_more levels later l.outer o h)

kept_more : (levels later : List Level) (keeps : List Kept) (found : List Found) → AreKept levels keeps found → AreKept (levels ++ later) keeps found
kept_more levels later keeps found none = none
kept_more levels later keeps found (more {kept = k} {found = f} {keeps = ks} {founds = fs} h hs) =
    more (record { tree = h.tree; level = around_more levels later k.level f.around h.level; inside = around_more levels later k.inside (within f.around f.element) h.inside })
    (kept_more levels later ks fs hs)

-- what is kept of two parts, one after the other
kept_append : (levels : List Level) (keeps later : List Kept) (found found_later : List Found) → AreKept levels keeps found → AreKept levels later found_later → AreKept levels (keeps ++ later) (found ++ found_later)
kept_append levels keeps later found found_later none g = g
kept_append levels keeps later found found_later (more {keeps = ks} {founds = fs} h hs) g = more h (kept_append levels ks later fs found_later hs g)

extended_around : (levels longer : List Level) (at : Option ℕ) (around : List Bind) → Extends levels longer → IsAround levels at around → IsAround longer at around
extended_around levels longer at around e h = subst (λ ls. IsAround ls at around) (sym e.1) (around_more levels e.0 at around h)

extended_kept : (levels longer : List Level) (keeps : List Kept) (found : List Found) → Extends levels longer → AreKept levels keeps found → AreKept longer keeps found
extended_kept levels longer keeps found e h = subst (λ ls. AreKept ls keeps found) (sym e.1) (kept_more levels e.0 keeps found h)

extends_none : (levels : List Level) → Extends levels levels
extends_none levels = ([], sym (append-nil levels))

extends_twice : (levels longer longest : List Level) → Extends levels longer → Extends longer longest → Extends levels longest
extends_twice levels longer longest e f = (e.0 ++ f.0, f.1 ∙ ap (λ ls. ls ++ f.0) e.1 ∙ append_assoc levels e.0 f.0)

-- the level of an element's declarations stands at the end
pub new_level : (t : Tree) (l : Level) (levels longer : List Level) (at : ℕ) → at ≡ length levels → l.binds.now ≡ (out-Tree t).binds → longer ≡ levels ++ l ∷ [] → LeadsInside t l.outer levels longer (Some at)
new_level t l levels longer at place is e =
    let added : Extends levels longer = (l ∷ [], e) in
    let same : at ≡ length levels + 0 = omega (arith, place) in (
      added,
      λ around h. subst (λ bs. IsAround longer (Some at) (around ++ bs)) is
          (inside l (subst (λ ls. slice_get ls at ≡ Some l) (sym e) (subst (λ i. slice_get (levels ++ l ∷ []) i ≡ Some l) (sym same) (get_right levels (l ∷ []) 0 l refl)))
          (λ other o. subst (λ n. other < n) (sym place) (level_within levels other around (subst (λ k. IsAround levels k around) o h))) (extended_around levels longer l.outer around added h)),
    )

module _ (names : List (List ℕ)) (outermost : Bool) where
  -- what is found in several elements, and in one more
  among_more : (around : List Bind) (ts : List Tree) (t : Tree) (found later : List Found) → FindsAmong names outermost around ts found → Finds names outermost around t later
      → FindsAmong names outermost around (ts ++ t ∷ []) (found ++ later)
  among_more around ts t found later nothing g = element later [] g nothing (sym (append-nil later))
  among_more around ts t found later (element {t = u} {ts = us} first others h hs is) g =
      element first (others ++ later) h (among_more around us t others later hs g) (ap (λ fs. fs ++ later) is ∙ append_assoc first others later)

  -- what is found in the children before the rest is put at the end
  abbrev pub AddsSoFar : List Tree → List Tree → Option ℕ → Option ℕ → List Level → List Level → List Kept → List Kept → Type 0
  AddsSoFar all rest level parent levels new_levels old new = (done : List Tree) × (all ≡ done ++ rest) × AddsAmong names outermost done level parent levels new_levels old new

  -- at the start nothing is added
  pub adds_none : (all rest : List Tree) (level parent : Option ℕ) (levels : List Level) (old : List Kept) → rest ≡ all → AddsSoFar all rest level parent levels levels old old
  adds_none all rest level parent levels old is =
      ([], sym is, (extends_none levels, λ around h. ([], [], sym (append-nil old), nothing, none, parts_none names outermost (length old) parent)))

  -- what is found in an element is added
  pub adds_element : (all rest after : List Tree) (t : Tree) (level parent : Option ℕ) (levels longer longest : List Level) (old new newer : List Kept) → AddsSoFar all rest level parent levels longer old new
      → rest ≡ t ∷ after → AddsKept names outermost t level parent longer longest new newer → AddsSoFar all after level parent levels longest old newer
  adds_element all rest after t level parent levels longer longest old new newer so_far is one =
      let done = so_far.0 in (
        done ++ t ∷ [],
        so_far.1 ∙ ap (λ ts. done ++ ts) is ∙ sym (append_assoc done (t ∷ []) after),
        (
          extends_twice levels longer longest so_far.2.0 one.0,
          λ around h.
              let a = so_far.2.1 around h in
              let b = one.1 around (extended_around levels longer level around so_far.2.0 h) in (
                a.0 ++ b.0,
                a.1 ++ b.1,
                b.2 ∙ ap (λ ks. ks ++ b.1) a.2 ∙ append_assoc old a.1 b.1,
                among_more around done t a.0 b.0 a.3 b.3,
                kept_append longest a.1 b.1 a.0 b.0 (extended_kept longer longest a.1 a.0 one.0 a.4) b.4,
                subst (λ roots. ArePartParents names outermost (length old) parent roots (a.1 ++ b.1) (a.0 ++ b.0)) (sym (map-append (λ u. record { around = around; element = u }) done (t ∷ [])))
                    (parts_append names outermost (length old) (length new) parent (standing_in around done) (standing_in around (t ∷ [])) a.1 b.1 a.0 b.0 (ap length a.2 ∙ length-append old a.1) a.5 b.5),
              ),
        ),
      )

  -- at the end all children were searched
  pub adds_all : (all rest : List Tree) (level parent : Option ℕ) (levels longer : List Level) (old new : List Kept) → rest ≡ [] → AddsSoFar all rest level parent levels longer old new
      → AddsAmong names outermost all level parent levels longer old new
  adds_all all rest level parent levels longer old new is so_far =
      subst (λ ts. AddsAmong names outermost ts level parent levels longer old new) (sym (so_far.1 ∙ ap (λ ts. so_far.0 ++ ts) is ∙ append-nil so_far.0)) so_far.2

  -- in an element that is not searched nothing is found
  pub adds_passed : (t : Tree) (level parent : Option ℕ) (levels : List Level) (old : List Kept) → is_searched t ≡ false → AddsKept names outermost t level parent levels levels old old
  adds_passed t level parent levels old h =
      (extends_none levels, λ around g. ([], [], sym (append-nil old), passed h, none, parts_passed names outermost (length old) parent (record { around = around; element = t }) h))

  -- an element of one of the names, where the outermost alone are looked for
  pub adds_outer : (t : Tree) (kept : Kept) (levels longer : List Level) (old new : List Kept) → kept.tree.now ≡ t → is_searched t ≡ true → outermost ≡ true → is_one_of names t ≡ true
      → LeadsInside t kept.level levels longer kept.inside → new ≡ old ++ kept ∷ [] → AddsKept names outermost t kept.level kept.parent levels longer old new
  adds_outer t kept levels longer old new is searched outermost_alone one leads e = (
    leads.0,
    λ around h. (
      record { around = around; element = t } ∷ [],
      kept ∷ [],
      e,
      outer searched outermost_alone one,
      more (record { tree = is; level = extended_around levels longer kept.level around leads.0 h; inside = leads.1 around h }) none,
      parts_outer names outermost (length old) kept.parent (record { around = around; element = t }) kept outermost_alone refl,
    ),
  )

  -- an element of one of the names, and what is found inside it
  adds_named : (t : Tree) (kept : Kept) (holder : Option ℕ) (levels longer longest : List Level) (old mid new : List Kept) → kept.tree.now ≡ t → is_searched t ≡ true → (outermost && is_one_of names t) ≡ false
      → is_one_of names t ≡ true → LeadsInside t kept.level levels longer kept.inside → mid ≡ old ++ kept ∷ [] → holder ≡ Some (length old)
      → AddsAmong names outermost (children_of t) kept.inside holder longer longest mid new → AddsKept names outermost t kept.level kept.parent levels longest old new
  adds_named t kept holder levels longer longest old mid new is tei all one leads e place adds =
      let extends = extends_twice levels longer longest leads.0 adds.0 in (
        extends,
        λ around h.
            let f : Found = record { around = around; element = t } in
            let a = adds.1 (within around t) (leads.1 around h) in
            let next : length mid ≡ length old + 1 = ap length e ∙ length-append old (kept ∷ []) in (
              f ∷ a.0,
              kept ∷ a.1,
              a.2 ∙ ap (λ ks. ks ++ a.1) e ∙ append_assoc old (kept ∷ []) a.1,
              through a.0 tei all a.3 (rw one refl),
              more (record { tree = is; level = extended_around levels longest kept.level around extends h; inside = extended_around longer longest kept.inside (within around t) adds.0 (leads.1 around h) }) a.4,
              parts_named names outermost (length old) (length mid) kept.parent f kept a.1 a.0 next refl
                  (subst (λ p. ArePartParents names outermost (length mid) p (standing_in (within around t) (children_of t)) a.1 a.0) place a.5),
            ),
      )

  -- what is found inside another
  adds_inside : (t : Tree) (kept : Kept) (holder : Option ℕ) (levels longer longest : List Level) (old mid new : List Kept) → is_searched t ≡ true → (outermost && is_one_of names t) ≡ false
      → is_one_of names t ≡ false → LeadsInside t kept.level levels longer kept.inside → mid ≡ old → holder ≡ None
      → AddsAmong names outermost (children_of t) kept.inside holder longer longest mid new → AddsKept names outermost t kept.level kept.parent levels longest old new
  adds_inside t kept holder levels longer longest old mid new tei all other leads e no_holder adds = (
    extends_twice levels longer longest leads.0 adds.0,
    λ around h.
        let f : Found = record { around = around; element = t } in
        let a = adds.1 (within around t) (leads.1 around h) in (
          a.0,
          a.1,
          a.2 ∙ ap (λ ks. ks ++ a.1) e,
          through a.0 tei all a.3 (rw other refl),
          a.4,
          parts_inside names outermost (length old) kept.parent f (standing_in (within around t) (children_of t)) a.1 a.0 other
              (subst (λ p. ArePartParents names outermost (length old) p (standing_in (within around t) (children_of t)) a.1 a.0) no_holder
              (subst (λ ks. ArePartParents names outermost (length ks) holder (standing_in (within around t) (children_of t)) a.1 a.0) e a.5)),
        ),
  )

  -- an element and what is found inside it
  pub adds_through : (t : Tree) (kept : Kept) (named : Bool) (holder : Option ℕ) (levels longer longest : List Level) (old mid new : List Kept) → kept.tree.now ≡ t → is_searched t ≡ true → named ≡ is_one_of names t
      → (outermost && named) ≡ false → LeadsInside t kept.level levels longer kept.inside → KeepsIt kept named old mid holder
      → AddsAmong names outermost (children_of t) kept.inside holder longer longest mid new → AddsKept names outermost t kept.level kept.parent levels longest old new
  adds_through t kept true holder levels longer longest old mid new is tei named all leads keeps adds =
      adds_named t kept holder levels longer longest old mid new is tei (subst (λ b. (outermost && b) ≡ false) named all) (sym named) leads keeps.0 keeps.1 adds
  adds_through t kept false holder levels longer longest old mid new is tei named all leads keeps adds =
      adds_inside t kept holder levels longer longest old mid new tei (subst (λ b. (outermost && b) ≡ false) named all) (sym named) leads (keeps.0 ∙ append-nil old) keeps.1 adds

  -- all that is found in an element is put to an empty list
  pub adds_only : (t : Tree) (levels longer : List Level) (old new : List Kept) → old ≡ [] → AddsKept names outermost t None None levels longer old new
      → (found : List Found) × Finds names outermost [] t found × AreKept longer new found × AreParents names outermost new found
  adds_only t levels longer old new is adds =
      let a = adds.1 [] outside in
      let same : a.1 ≡ new = sym (a.2 ∙ ap (λ ks. ks ++ a.1) is) in (
        a.0,
        a.3,
        subst (λ ks. AreKept longer ks a.0) same a.4,
        subst (λ ks. AreParents names outermost ks a.0) same
            (all_parents names outermost (record { around = []; element = t }) a.1 a.0 (subst (λ n. ArePartParents names outermost n None (standing_in [] (t ∷ [])) a.1 a.0) (ap length is) a.5)),
      )
