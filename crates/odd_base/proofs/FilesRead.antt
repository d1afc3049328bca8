-- Files that are found by their names, and what was read of one so far.
use Rattle.std.proofs.Common.{◌≡◌, ℕ, zero, suc, true, false, ◌+◌, ◌<◌, List, [], ◌∷◌, cond, length, get_or, drop, Some, None, refl, ap, sym, subst, ◌∙◌, arith, Bool, ◌≤◌, ◌++◌, take, Option, append_assoc, length-take}
use Rattle.std.proofs.lemmas.Bool.{false_from_ne_true}
use Rattle.std.proofs.lemmas.Cmp.{nat_list_cmp_total}
use Rattle.std.proofs.lemmas.List.{at_drop_more, take-append-drop, take-append-le, append-nil, take_all}
use Rattle.std.proofs.lemmas.Map.Views.{tells_apart}
use Rattle.std.specs.Cmp.{eq_by_cmp_equiv}
use Rattle.std.specs.FinMap as finite
use Rattle.std.specs.FinMap.{slice_cmp-IsAntisymmetric, nat_cmp-IsAntisymmetric}
use Rattle.std.specs.Ordering.{eq_by_cmp}
use Rattle.std.specs.Prelude.{if◌then◌else◌}
use Rattle.odd_text.specs.Count.{next_count}
use Rattle.odd_text.specs.Text.{text_cmp}
use Rattle.odd_base.specs.Memory.{pairs_of, bytes_at, rest_of, files_of}
use Rattle.odd_base.specs.Shelf.{FileMap, Opened, NotHeld, Held, TakesFront}
use Rattle.odd_base.specs.declared.mem_shelf.File.{File}

eq_same : (k x : List ℕ) → x ≡ k → eq_by_cmp text_cmp k x ≡ true
eq_same k x e = rw e ((eq_by_cmp_equiv nat_list_cmp_total).refl k)

eq_other : (k x : List ℕ) → (x ≡ k → ⊥) → eq_by_cmp text_cmp k x ≡ false
eq_other k x h = false_from_ne_true _ (λ e. h (sym (tells_apart (slice_cmp-IsAntisymmetric nat_cmp-IsAntisymmetric) k x e)))

pub file_hit : (k : List ℕ) (fs : List File) (i : ℕ) (d : File) → i < length fs → (get_or fs i d).name ≡ k
    → bytes_at fs (Some i) ≡ finite.find text_cmp k (pairs_of (drop i fs))
file_hit k [] i d h e = absurd (omega arith)
file_hit k (f ∷ fs) zero d h e = rw (eq_same k f.name e)
file_hit k (f ∷ fs) (suc i) d h e = file_hit k fs i d (omega arith) e

pub file_miss : (k : List ℕ) (fs : List File) (i : ℕ) (d : File) → i < length fs → ((get_or fs i d).name ≡ k → ⊥)
    → finite.find text_cmp k (pairs_of (drop i fs)) ≡ finite.find text_cmp k (pairs_of (drop (i + 1) fs))
file_miss k fs i d h e =
    at_drop_more (λ gs. finite.find text_cmp k (pairs_of gs)) fs i d h
    ∙ ap (λ b. cond b (Some (get_or fs i d).bytes) (finite.find text_cmp k (pairs_of (drop (i + 1) fs)))) (eq_other k (get_or fs i d).name e)

bytes_rest : (fs : List File) (i : ℕ) → i < length fs → bytes_at fs (Some i) ≡ Some (rest_of fs (Some (record { number = i; at = 0 })))
bytes_rest [] i h = absurd (omega arith)
bytes_rest (f ∷ fs) zero h = refl
bytes_rest (f ∷ fs) (suc i) h = bytes_rest fs i (omega arith)

get_files : (fs : List File) (k : List ℕ) → finite.get (files_of fs) k ≡ finite.find text_cmp k (pairs_of fs)
get_files fs k = finite.get-from_entries nat_list_cmp_total (pairs_of fs) k

pub opened_file : (fs : List File) (k : List ℕ) (i : ℕ) (files : FileMap) → bytes_at fs (Some i) ≡ finite.find text_cmp k (pairs_of fs) → i < length fs
    → Some (files_of fs) ≡ Some files → Opened files k (Some (rest_of fs (Some (record { number = i; at = 0 }))))
opened_file fs k i files e h is =
    let same : files_of fs ≡ files = cc in
    subst (λ y. Opened y k (Some (rest_of fs (Some (record { number = i; at = 0 }))))) same
    (rest_of fs (Some (record { number = i; at = 0 })), get_files fs k ∙ sym e ∙ bytes_rest fs i h, refl)

pub no_file : (fs : List File) (k : List ℕ) (files : FileMap) → None ≡ finite.find text_cmp k (pairs_of fs) → Some (files_of fs) ≡ Some files → NotHeld files k
no_file fs k files e is =
    let same : files_of fs ≡ files = cc in
    subst (λ y. NotHeld y k) same (get_files fs k ∙ sym e)

-- so far has been read of the file, and rest is unread
abbrev pub ReadSoFar : FileMap → List ℕ → List ℕ → Option (List ℕ) → Type 0
ReadSoFar files name sofar rest = (bytes : List ℕ) × (left : List ℕ) × Held files name bytes × (rest ≡ Some left) × (bytes ≡ sofar ++ left)

front_taken : (n : ℕ) (left old : List ℕ) → n ≤ length left → take n (take n left ++ drop n old) ≡ take n left
front_taken n left old h =
    let w : n ≤ length (take n left) = omega (arith, length-take n left) in
    take-append-le n (take n left) (drop n old) w ∙ take_all n (take n left) (omega (arith, length-take n left))

pub more_read : (files : FileMap) (name sofar old new piece : List ℕ) (n : ℕ) (rest rest' : Option (List ℕ)) → ReadSoFar files name sofar rest
    → ((left : List ℕ) → rest ≡ Some left → TakesFront left old new rest' n) → piece ≡ take n new → ReadSoFar files name (sofar ++ piece) rest'
more_read files name sofar old new piece n rest rest' r moved is =
    let m = moved r.1 r.3 in
    let taken : piece ≡ take n r.1 = is ∙ ap (take n) m.buffer ∙ front_taken n r.1 old m.within in
    let all : r.0 ≡ (sofar ++ piece) ++ drop n r.1 = r.4 ∙ ap (λ y. sofar ++ y) (sym (take-append-drop n r.1)) ∙ sym (append_assoc sofar (take n r.1) (drop n r.1)) ∙ ap (λ y. (sofar ++ y) ++ drop n r.1) (sym taken) in
    (r.0, drop n r.1, r.2, m.left, all)

pub all_read : (files : FileMap) (name sofar old new : List ℕ) (rest rest' : Option (List ℕ)) → ReadSoFar files name sofar rest
    → ((left : List ℕ) → rest ≡ Some left → TakesFront left old new rest' 0) → 0 < length old → Held files name sofar
all_read files name sofar old new rest rest' r moved h =
    let m = moved r.1 r.3 in
    let none : r.1 ≡ [] = m.ends refl h in
    let all : r.0 ≡ sofar = r.4 ∙ ap (λ y. sofar ++ y) none ∙ append-nil sofar in
    subst (λ y. Held files name y) all r.2

-- a read of none into a buffer with room leaves nothing
pub none_left : (files : FileMap) (name sofar old new : List ℕ) (rest rest' : Option (List ℕ)) → ReadSoFar files name sofar rest
    → ((left : List ℕ) → rest ≡ Some left → TakesFront left old new rest' 0) → 0 < length old → rest' ≡ Some []
none_left files name sofar old new rest rest' r moved h = let m = moved r.1 r.3 in m.left ∙ ap (λ xs. Some (drop 0 xs)) (m.ends refl h)

-- a read raises the count of reads by at most one
pub counted_read : (b : Bool) (old new : ℕ) → new ≡ (if b then next_count old else old) → new ≤ old + 1
counted_read true old new e = omega (arith, e)
counted_read false old new e = omega (arith, e)
