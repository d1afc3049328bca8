-- What words come to, from the files that they name, read one after another, to the reply.
use Rattle.std.proofs.Common.{◌≡◌, ◌<◌, ◌+◌, ℕ, suc, List, [], ◌∷◌, ◌++◌, length, get_or, take, drop, Option, Some, Result, Ok, Err, ◌⊎◌, inl, inr, sym, ap, subst, ◌∙◌, add-one, arith, below_more, length-append, ◌≤◌, ◌*◌, refl}
use Rattle.std.proofs.lemmas.List.{length-take-le, take-append-drop}
use Rattle.std.proofs.lemmas.Result.{IfErr-weaker, IfOk-weaker}
use Rattle.std.specs.Prelude.{Bool, true, false, IfErr, IfOk, IsTrue, OnOk}
use Rattle.odd_base.specs.Shelf.{FileMap, Held, LeavesSuffix, NotHeld}
use Rattle.odd_chain.specs.Reading.{IsChainOf, IsFormedChain}
use Rattle.odd_chain.specs.declared.chain.Chain.{Chain}
use Rattle.odd_text.specs.Count.{next_count}
use Rattle.odd_text.proofs.InList.{begins, ends}
use Rattle.odd_tree.specs.Formed.{IsFormed}
use Rattle.odd_tree.specs.declared.tree.Tree.{Tree}
use Rattle.odd_cli.proofs.OneReply.{names_one, none_stops, one_chain, words_one, never_done, sound_replies}
use Rattle.odd_cli.specs.Outcome.{answers, gives}
use Rattle.odd_cli.specs.Reading.{IsChainRead, IsOfFile, IsOfTrees, IsTreeRead, StopsAt}
use Rattle.odd_cli.specs.Reply.{FileGives, FileStops, GiveTrees, IsReached, ReadsChain, stops, NamesFiles, Reply, TreesComeTo, answered, chain_files, done, file_bytes, WordsComeTo}
use Rattle.odd_cli.specs.Running.{AreBegun, AreReadWhole, BeginsFiles, GoesOn, IsFaultPlace, IsReplied, counted, AsidesOfTrees, AsidesOfWords, IsReadPlace, IsComplete, IsSilent, IsSound, ServesTrees, ServesWords}
use Rattle.odd_cli.specs.Words as task
use Rattle.odd_cli.specs.Words.{Asks, Task, WordsMean, files_named, of_chain, task_words, with_aside}
use Rattle.odd_cli.specs.declared.running.Answer.{Answer}
use Rattle.odd_cli.specs.declared.status.LimitKind.TheVariants as limit
use Rattle.odd_cli.specs.declared.status.Status.{Status}
use Rattle.odd_cli.specs.declared.status.Status.TheVariants as status
use Rattle.odd_cli.specs.declared.words.Job.{Job}

-- one file more gives one tree more
one_more : (files : FileMap) {names : List (List ℕ)} {trees : List Tree} (name : List ℕ) (tree : Tree) → GiveTrees files names trees → FileGives files name tree
    → GiveTrees files (names ++ name ∷ []) (trees ++ tree ∷ [])
one_more files name tree GiveTrees.none one = GiveTrees.more one GiveTrees.none
one_more files name tree (GiveTrees.more first rest) one = GiveTrees.more first (one_more files name tree rest one)

module _ {aside : Bool} (holds : Option FileMap) (names : List (List ℕ)) (i : ℕ) (name : List ℕ) (within : i < length names) (there : name ≡ get_or names i name) where
  -- the number of the next file
  read_so_far : {chain : Chain} (r : IsChainRead aside holds (take i names) chain) → length r.trees ≡ i
  read_so_far r = r.many ∙ length-take-le i names (omega arith)

  -- a chain with the tree of the next file
  pub chain_with : (tree : Tree) (chain made : Chain) → IsChainRead aside holds (take i names) chain → IsTreeRead holds name tree
      → ((trees : List Tree) (first end : ℕ) → IsFormed first end tree → IsChainOf aside chain trees → suc i ≡ suc (length trees) → IsChainOf aside made (trees ++ tree ∷ []))
      → ((first end : ℕ) → IsFormed first end tree → IsFormedChain chain → IsFormedChain made) → IsChainRead aside holds (take (i + 1) names) made
  chain_with tree chain made r t with_one stay = record {
    trees = r.trees ++ tree ∷ [];
    is_chain = with_one r.trees 0 (length t.bytes) t.formed r.is_chain (ap suc (sym (read_so_far r)));
    many = length-append r.trees (tree ∷ []) ∙ ap (λ n. n + 1) r.many ∙ sym (ap length names_more ∙ length-append (take i names) (name ∷ []));
    formed = stay 0 (length t.bytes) t.formed r.formed;
    given = λ files h. subst (λ ns. GiveTrees files ns (r.trees ++ tree ∷ [])) (sym names_more)
        (one_more files name tree (r.given files h) (record { bytes = t.bytes; is_read = record { held = t.held files h; within = t.within }; given = t.given }));
  }
    where
      names_more : take (i + 1) names ≡ take i names ++ name ∷ []
      names_more = ends names i name within there

  -- the next file is reached
  next_reached : {chain : Chain} (files : FileMap) → holds ≡ Some files → IsChainRead aside holds (take i names) chain → IsReached files names (suc i) name
  next_reached files h r = record {
    earlier = take i names;
    later = drop (i + 1) names;
    parts = sym (take-append-drop i names) ∙ ap (λ ns. take i names ++ ns) (begins names i name within there);
    numbered = ap suc (sym (length-take-le i names (omega arith)));
    trees = r.trees;
    given = r.given files h;
  }

  -- the chain stops there, where the file gives no tree
  pub stops_next : (chain : Chain) (files : FileMap) → holds ≡ Some files → IsChainRead aside holds (take i names) chain → (read : Result Tree Status) (s : Status)
      → IfErr read (λ t. IsReplied t → FileStops files name (suc i) t) → (read ≡ Err s) ⊎ (s ≡ status.NoMemory) → IsReplied s → ReadsChain files names (answers s)
  stops_next chain files h r read s none (inl e) replied =
      stops (suc i) name (next_reached files h r) (subst (λ (x : Result Tree Status). IfErr x (λ t. IsReplied t → FileStops files name (suc i) t)) e none replied)
  stops_next chain files h r read s none (inr e) replied = absurd (subst IsReplied e replied)

  -- where it faults
  pub faults_next : (chain : Chain) (files : FileMap) (number : ℕ) (rest : Option (List ℕ)) (steady : Bool) → holds ≡ Some files → IsChainRead aside holds (take i names) chain
      → number ≡ suc i → ((bytes : List ℕ) → Held files name bytes → LeavesSuffix bytes rest) → (IsTrue steady → NotHeld files name) → IsFaultPlace names files number rest steady
  faults_next chain files number rest steady h r e suffix absent =
      record { name = name; reached = subst (λ n. IsReached files names n name) (sym e) (next_reached files h r); suffix = suffix; not_held = absent }

-- what is said of a tree that was read
pub tree_read : (h k : Option FileMap) (name : List ℕ) (read : Result Tree Status) (tree : Tree) → h ≡ k → read ≡ Ok tree → IfOk read (IsTreeRead h name) → IsTreeRead k name tree
tree_read h k name read tree e is t = subst (λ x. IsTreeRead x name tree) e (subst (λ (x : Result Tree Status). IfOk x (IsTreeRead h name)) is t)

-- a fault of reading is the file's own
pub own_fault : (read : Result Tree Status) (s : Status) (file number : ℕ) → IfErr read (IsOfFile file) → (read ≡ Err s) ⊎ (s ≡ status.NoMemory) → s ≡ status.ReadFault number
    → (read ≡ Err (status.ReadFault number)) × (number ≡ file)
own_fault read s file number of (inl e) is =
    let faulted : read ≡ Err (status.ReadFault number) = e ∙ ap Err is in
    (faulted, subst (λ (x : Result Tree Status). IfErr x (IsOfFile file)) faulted of)
own_fault read s file number of (inr e) is = let no : status.NoMemory ≡ status.ReadFault number = sym e ∙ is in cc

-- the status of a file that gives no tree
pub of_next : (read : Result Tree Status) (s : Status) (file : ℕ) → IfErr read (IsOfFile file) → (read ≡ Err s) ⊎ (s ≡ status.NoMemory) → IsOfFile file s
of_next read s file of (inl e) = subst (λ (x : Result Tree Status). IfErr x (IsOfFile file)) e of
of_next read s file of (inr e) = subst (IsOfFile file) (sym e) tt

-- Counts

-- one more after so many
pub next_counted : (old count : ℕ) → next_count (counted old count) ≡ counted old (count + 1)
next_counted old count = ap (counted old) (sym (add-one count))

-- a file that stops the chain is the last that is begun
stopped_begun : (files file : ℕ) (s : Status) → file ≤ files → IsOfFile file s → AreBegun s files file
stopped_begun files file (status.ReadFault number) within of = sym of
stopped_begun files file (status.NotXml number at) within of = sym of
stopped_begun files file (status.Limit (limit.Bytes number)) within of = sym of
stopped_begun files file (status.Limit (limit.Depth number at)) within of = sym of
stopped_begun files file status.NoMemory within of = within
stopped_begun files file s within of = absurd of

-- where each gives its tree, all are begun
all_begun : (files : ℕ) (s : Status) → IsOfTrees s → AreBegun s files files
all_begun files (status.Refused offence) of = refl
all_begun files (status.Limit limit.Nodes) of = refl
all_begun files status.NoMemory of = omega arith
all_begun files s of = absurd of

-- What reading leaves of a shelf
module _ {S : Type 0} (holds : S → Option FileMap) (steady : S → Bool) (faults begins reads : S → ℕ) (rest : S → Option (List ℕ)) where
  abbrev Goes : S → S → Type 0
  Goes = GoesOn holds steady faults begins reads

  pub goes_later : (old between new : S) → Goes old between → Goes between new → Goes old new
  goes_later old between new p q = (q.0 ∙ p.0, q.1 ∙ p.1, omega (arith, p.2, q.2), omega (arith, p.3, q.3), omega (arith, p.4, q.4))

  -- one file more is read whole
  pub whole_more : (files : ℕ) (old between new : S) → AreReadWhole begins rest Goes files old between → Goes old between → Goes between new
      → begins new ≡ counted (begins old) (files + 1) → rest new ≡ Some [] → AreReadWhole begins rest Goes (files + 1) old new
  whole_more files old between new whole p q count ended file first last =
      below_more (λ k. 1 ≤ k → (state : S) × (begins state ≡ counted (begins old) k) × (rest state ≡ Some []) × Goes old state × Goes state new) (files + 1)
      (λ k below from. let at = whole k from (omega arith) in (at.0, at.1, at.2, at.3, goes_later at.0 between new at.4 q))
      (λ from. (new, count, ended, goes_later old between new p q, (refl, refl, omega arith, omega arith, omega arith))) file (omega arith) first

-- the words after the command are the files, and for `explain` those after the ident
files_are : (asked : Task) (aside : Bool) (names : List (List ℕ)) → files_named (with_aside aside (task_words asked ++ names)) ≡ length names
files_are task.merge true names = refl
files_are task.merge false names = refl
files_are task.compile true names = refl
files_are task.compile false names = refl
files_are (task.explain ident) true names = omega arith
files_are (task.explain ident) false names = omega arith

-- the files that words name: how many there are, and that they are those of the job
module _ (words : List (List ℕ)) (asked : Task) (aside : Bool) (names : List (List ℕ)) where
  pub named_asks : NamesFiles words (gives (asked, aside, names)) → Asks words asked aside names
  named_asks (NamesFiles.named c few) = c

  pub named_few : NamesFiles words (gives (asked, aside, names)) → length names ≤ chain_files
  named_few (NamesFiles.named c few) = few

  pub named_many : NamesFiles words (gives (asked, aside, names)) → length names ≡ files_named words
  named_many (NamesFiles.named c few) = sym (ap files_named c.words_are ∙ files_are asked aside names)

  pub named_job : NamesFiles words (gives (asked, aside, names)) → ((job : Job) → WordsMean words job → ⊥) → ⊥
  named_job (NamesFiles.named c few) none = none _ (of_chain asked aside names c refl)

-- words that name no files have no job, or too many
pub usage_named : (words : List (List ℕ)) (s : Status) → NamesFiles words (answers s) → s ≡ status.Usage → (job : Job) → WordsMean words job → ⊥
usage_named words s (NamesFiles.no_job none) e = none
usage_named words s (NamesFiles.too_many asked aside chain c many) e = cc

pub named_usage : (words : List (List ℕ)) (s : Status) → NamesFiles words (answers s) → ((job : Job) → WordsMean words job → ⊥) → s ≡ status.Usage
named_usage words s (NamesFiles.no_job none) e = refl
named_usage words s (NamesFiles.too_many asked aside chain c many) none = absurd (none _ (of_chain asked aside chain c refl))

-- they answer one status, and none where they name files
pub named_answer : (words : List (List ℕ)) (s r : Status) → NamesFiles words (answers s) → NamesFiles words (answers r) → s ≡ r
named_answer words s r n m = let same = names_one words (answers s) (answers r) n m in cc

pub named_none : (words : List (List ℕ)) (asked : Task) (aside : Bool) (names : List (List ℕ)) (s : Status) → NamesFiles words (gives (asked, aside, names)) → NamesFiles words (answers s) → ⊥
named_none words asked aside names s n m = let no = names_one words (gives (asked, aside, names)) (answers s) n m in cc

module _ (holds : Option FileMap) (words : List (List ℕ)) (asked : Task) (aside : Bool) (names : List (List ℕ)) (chain : Chain) (n : NamesFiles words (gives (asked, aside, names)))
    (r : IsChainRead aside holds names chain) where
  pub text_comes : (files : FileMap) → holds ≡ Some files → (t : Result Answer Status)
      → IfOk t (λ answer. (trees : List Tree) → IsChainOf aside chain trees → length names ≡ length trees → TreesComeTo asked aside trees (gives answer.text))
      → IfOk t (λ answer. Reply words files answer.text status.Done)
  text_comes files h t =
      IfOk-weaker t _ _ (λ answer come. done ((asked, aside, names), n, (r.trees, ReadsChain.all_spelled (r.given files h), come r.trees r.is_chain (sym r.many))))

  pub text_serves : (files : FileMap) → holds ≡ Some files → (t : Result Answer Status)
      → IfOk t (λ answer. (trees : List Tree) → IsChainOf aside chain trees → ServesTrees asked aside trees answer.text) → IfOk t (λ answer. ServesWords words files answer.text)
  text_serves files h t = IfOk-weaker t _ _ (λ answer serves. record {
    asked = asked;
    aside = aside;
    chain = names;
    asks = named_asks words asked aside names n;
    within = named_few words asked aside names n;
    trees = r.trees;
    given = r.given files h;
    serves = serves r.trees r.is_chain;
  })

  pub asides_told : (files : FileMap) → holds ≡ Some files → (t : Result Answer Status)
      → IfOk t (λ answer. (trees : List Tree) → IsChainOf aside chain trees → AsidesOfTrees aside trees answer.asides) → IfOk t (λ answer. AsidesOfWords words files answer.asides)
  asides_told files h t = IfOk-weaker t _ _ (λ answer told. record {
    asked = asked;
    aside = aside;
    chain = names;
    asks = named_asks words asked aside names n;
    trees = r.trees;
    given = r.given files h;
    told = told r.trees r.is_chain;
  })

  pub status_comes : (files : FileMap) → holds ≡ Some files → (t : Result Answer Status)
      → IfErr t (λ s. (trees : List Tree) → IsChainOf aside chain trees → length names ≡ length trees → IsReplied s → TreesComeTo asked aside trees (answers s))
      → IfErr t (λ s. IsReplied s → Reply words files [] s)
  status_comes files h t = IfErr-weaker t _ _
      (λ s come replied. answered (inr ((asked, aside, names), n, inr (r.trees, ReadsChain.all_spelled (r.given files h), come r.trees r.is_chain (sym r.many) replied))))

-- a file of the chain that was not read
pub fault_placed : (words : List (List ℕ)) (asked : Task) (aside : Bool) (names : List (List ℕ)) (files : FileMap) (number : ℕ) (rest : Option (List ℕ)) (steady : Bool)
    → NamesFiles words (gives (asked, aside, names)) → IsFaultPlace names files number rest steady → IsReadPlace words files number rest steady
fault_placed words asked aside names files number rest steady n p =
    record { asked = asked; aside = aside; chain = names; asks = named_asks words asked aside names n; within = named_few words asked aside names n; place = p }

-- the status of a file that was not read
pub stop_comes : (files : FileMap) (words : List (List ℕ)) (asked : Task) (aside : Bool) (names : List (List ℕ)) (s : Status) → NamesFiles words (gives (asked, aside, names))
    → (IsReplied s → ReadsChain files names (answers s)) → IsReplied s → Reply words files [] s
stop_comes files words asked aside names s n reads replied = answered (inr ((asked, aside, names), n, inl (reads replied)))

-- what is said of the schema, whatever comes of it
pub on_any : (r : Result Answer Status) (P : Type 0) → P → OnOk r P
on_any (Ok answer) P p = p
on_any (Err s) P p = tt

-- How many files are begun
module _ (words : List (List ℕ)) (asked : Task) (aside : Bool) (names : List (List ℕ)) (n : NamesFiles words (gives (asked, aside, names))) (begins_old begins_new reads_old reads_new : ℕ) where
  pub begun_on_err : (r : Result Answer Status) → begins_new ≡ counted begins_old (length names) → reads_new ≤ reads_old + length names * (file_bytes + 1) → IfErr r IsOfTrees
      → IfErr r (λ s. BeginsFiles s (files_named words) begins_old begins_new reads_old reads_new)
  begun_on_err r e few = IfErr-weaker r _ _ (λ s of. subst (λ files. BeginsFiles s files begins_old begins_new reads_old reads_new) (named_many words asked aside names n)
      (record { begun = length names; are_begun = all_begun (length names) s of; count = e; few_reads = few }))

  pub begun_stopped : (s : Status) → StopsAt (length names) s begins_old begins_new reads_old reads_new → BeginsFiles s (files_named words) begins_old begins_new reads_old reads_new
  begun_stopped s stop = subst (λ files. BeginsFiles s files begins_old begins_new reads_old reads_new) (named_many words asked aside names n)
      (record { begun = stop.0; are_begun = stopped_begun (length names) stop.0 s stop.1 stop.2; count = stop.3; few_reads = stop.4 })

-- the reply has one status
pub one_status : (words : List (List ℕ)) (files : FileMap) (t u : List ℕ) (s r : Status) → Reply words files t s → Reply words files u r → s ≡ r
one_status words files t u s r (answered a) (answered b) = let same = words_one files words (answers s) (answers r) a b in cc
one_status words files t u s r (answered a) (done b) = let no = words_one files words (answers s) (gives u) a b in cc
one_status words files t u s r (done a) (answered b) = let no = words_one files words (gives t) (answers r) a b in cc
one_status words files t u s r (done a) (done b) = refl

-- where it is done it comes to its text
pub done_gives : (words : List (List ℕ)) (files : FileMap) (text : List ℕ) → Reply words files text status.Done → WordsComeTo files words (gives text)
done_gives words files text (answered a) = absurd (never_done words files a)
done_gives words files text (done a) = a

-- the reply has one text
pub one_text : (words : List (List ℕ)) (files : FileMap) (t u : List ℕ) → Reply words files t status.Done → Reply words files u status.Done → t ≡ u
one_text words files t u p q = let same = words_one files words (gives t) (gives u) (done_gives words files t p) (done_gives words files u q) in cc

-- and so the reply is one
pub one_reply : (words : List (List ℕ)) (files : FileMap) (t u : List ℕ) (s r : Status) → Reply words files t s → Reply words files u r → (t ≡ u) × (s ≡ r)
one_reply words files t u s r (answered a) (answered b) = (refl, one_status words files [] [] s r (answered a) (answered b))
one_reply words files t u s r (answered a) (done b) = let no = words_one files words (answers s) (gives u) a b in cc
one_reply words files t u s r (done a) (answered b) = let no = words_one files words (gives t) (answers r) a b in cc
one_reply words files t u s r (done a) (done b) = (one_text words files t u (done a) (done b), refl)

-- a reply that writes nothing has no text
pub silent_text : (words : List (List ℕ)) (files : FileMap) (text : List ℕ) (s : Status) → IsSilent s → Reply words files text s → text ≡ []
silent_text words files text s silent (answered a) = refl
silent_text words files text s silent (done a) = absurd silent

-- where words and files are sound, a run ends with no status that writes nothing, but for one that the outside causes
pub silent_complete : (words : List (List ℕ)) (files : FileMap) (s : Status) → IsSound words files → IsSilent s → (IsReplied s → Reply words files [] s)
    → ((file : ℕ) → s ≡ status.ReadFault file → ⊥) → IsComplete s
silent_complete words files status.NoMemory sound silent reply read = inr refl
silent_complete words files (status.ReadFault file) sound silent reply read = absurd (read file refl)
silent_complete words files status.WriteFault sound silent reply read = absurd silent
silent_complete words files s sound silent reply read = absurd (sound_replies words files [] s sound silent (reply tt))

-- and over a steady shelf none of the files fails to be read, since each is held
pub reads_steady : (words : List (List ℕ)) (files : FileMap) (number : ℕ) (rest : Option (List ℕ)) (steady : Bool) → IsSound words files
    → IsReadPlace words files number rest steady → IsTrue steady → ⊥
reads_steady words files number rest steady sound p is =
    let chains = one_chain words p.asked sound.asked p.aside sound.aside p.chain sound.chain p.asks sound.asks in
    let reached = p.place.reached in
    none_stops files sound.chain sound.trees p.place.name number (status.ReadFault number) sound.given (reached.earlier, reached.later, sym chains ∙ reached.parts)
    (FileStops.not_held (p.place.not_held is))
