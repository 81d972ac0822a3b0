-- Commands one after the other, and which fault is told.
use Rattle.std.proofs.Common.{◌≡◌, ◌∙◌, ◌<◌, ◌≤◌, ◌+◌, ℕ, zero, suc, Bool, true, false, List, [], ◌∷◌, ◌++◌, length}
use Rattle.std.proofs.Common.{Option, Some, None, Result, Ok, Err, OnOk, drop, slice_get, ap, sym, refl, subst, inl}
use Rattle.std.proofs.Common.{inr, arith}
use Rattle.std.proofs.Common.{length-append, length-drop}
use Rattle.std.proofs.lemmas.List.{drop-drop}
use Rattle.script_reader.specs.declared.trees.trees.Node.{Node}
use Rattle.script_reader.specs.declared.trees.trees.Trees.{Trees}
use Rattle.script_reader.specs.declared.trees.reading.TreeFault.{TreeFault}
use Rattle.script_reader.specs.declared.trees.reading.TreeFault.TheVariants as faults
use Rattle.script_reader.specs.declared.faults.ScriptFault.{ScriptFault}
use Rattle.script_reader.specs.declared.faults.ScriptFault.TheVariants as script
use Rattle.script_reader.specs.declared.commands.After.{After}
use Rattle.script_reader.specs.declared.commands.After.TheVariants.{Goes, Asks, Ends}
use Rattle.script_reader.specs.Atoms.{behind, below_in, text_in}
use Rattle.script_reader.specs.Commands.{IsAsked, asks_after, asks_from, commands_in, ruled, word_in}
use Rattle.script_reader.specs.Faults.{ReadsOr, first_unfit}
use Rattle.script_reader.specs.Forests.{Forest, IsSpelled, atom, list, nodes_in, none}
use Rattle.script_reader.specs.Telling.{TellsText, TellsUnfit, told}
use Rattle.script_reader.specs.Words.{command_of, command_words}

-- ---- the command at a place

-- no word is empty
no_word : command_of [] ≡ None
unfolding command_words
no_word = refl

get-drop : {X : Type 0} (xs : List X) (i k : ℕ) → slice_get (drop i xs) k ≡ slice_get xs (i + k)
get-drop xs zero k = ap (slice_get xs) (let e : k ≡ 0 + k = omega arith in e)
get-drop [] (suc i) k = refl
get-drop (x ∷ xs) (suc i) k =
    get-drop xs i k ∙ ap (slice_get (x ∷ xs)) (let e : suc (i + k) ≡ suc i + k = omega arith in e)

drop-all : {X : Type 0} (xs ys : List X) → drop (length xs) (xs ++ ys) ≡ ys
drop-all [] ys = refl
drop-all (x ∷ xs) ys = drop-all xs ys

-- outermost trees from a place on, the first of them taken with its command, and those behind it
pub record IsStep (bytes : List ℕ) (nodes : List Node) (place : ℕ) (trees : Forest) (asked : Bool) (after : After)
    : Type 0 where
  pub rest : Forest
  pub is_rest : drop (behind nodes place) nodes ≡ nodes_in rest
  pub is_commands : asks_from asked (commands_in bytes trees)
      ≡ asks_after (Some after) asked (λ a. asks_from a (commands_in bytes rest))

module _ (bytes : List ℕ) (nodes : List Node) (place : ℕ) (asked : Bool) (after : After) where
  inner_word : (inner : Forest) (others : List Node) → 0 < length (nodes_in inner)
      → ruled (command_of (text_in bytes (slice_get (nodes_in inner ++ others) 0))) asked ≡ Some after
      → ruled (word_in bytes inner) asked ≡ Some after
  inner_word none others some r = absurd (omega (arith, some))
  inner_word (atom kind from to rest) others some r = r
  inner_word (list from behind inner last to rest) others some r =
      absurd (let e : None ≡ Some after = sym (ap (λ c. ruled c asked) no_word) ∙ r in cc)

  at_first : (l : List Node) → drop place nodes ≡ l → slice_get nodes place ≡ slice_get l 0
  at_first l h =
      ap (slice_get nodes) (let e : place ≡ place + 0 = omega arith in e)
      ∙ sym (get-drop nodes place 0) ∙ ap (λ k. slice_get k 0) h

  at_second : (l : List Node) → drop place nodes ≡ l → slice_get nodes (place + 1) ≡ slice_get l 1
  at_second l h = sym (get-drop nodes place 1) ∙ ap (λ k. slice_get k 1) h

  -- a command that may stand there is the next step
  pub step : (trees : Forest) → drop place nodes ≡ nodes_in trees → place < length nodes
      → place + 1 < behind nodes place
      → ruled (command_of (text_in bytes (slice_get nodes (place + 1)))) asked ≡ Some after
      → IsStep bytes nodes place trees asked after
  unfolding asks_from
  step none here within inside rules =
      absurd (let e = length-drop place nodes in let h = ap length here in omega (arith, e, h, within))
  step (atom kind from to rest) here within inside rules =
      absurd (let b : below_in (slice_get nodes place) ≡ 0 =
      ap below_in (at_first (nodes_in (atom kind from to rest)) here) in omega (arith, b, inside))
  step (list from behind_first inner last to rest) here within inside rules =
      let l = nodes_in (list from behind_first inner last to rest) in
      let count = length (nodes_in inner) in
      let b : below_in (slice_get nodes place) ≡ count = ap below_in (at_first l here) in
      let some : 0 < count = omega (arith, b, inside) in
      let to_rest : behind nodes place ≡ place + suc count = omega (arith, b) in
      let word = subst (λ (o : Option Node). ruled (command_of (text_in bytes o)) asked ≡ Some after)
      (at_second l here) rules in
      record {
        rest = rest;
        is_rest = ap (λ k. drop k nodes) to_rest ∙ sym (drop-drop (suc count) place nodes) ∙ ap (drop (suc count)) here
            ∙ drop-all (nodes_in inner) (nodes_in rest);
        is_commands = ap (λ r. asks_after r asked (λ a. asks_from a (commands_in bytes rest)))
            (inner_word inner (nodes_in rest) some word);
      }

-- ---- the loop over the commands

-- what is left of the trees from a place on, where the question was asked or not
pub record IsReached (bytes : List ℕ) (nodes : List Node) (all : Forest) (place : ℕ) (asked : Bool) : Type 0 where
  pub rest : Forest
  pub is_rest : drop place nodes ≡ nodes_in rest
  pub is_commands : asks_from false (commands_in bytes all) ≡ asks_from asked (commands_in bytes rest)

pub reached_first : (bytes : List ℕ) (nodes : List Node) (all : Forest) → nodes ≡ nodes_in all
    → IsReached bytes nodes all 0 false
reached_first bytes nodes all is = record { rest = all; is_rest = is; is_commands = refl }

-- no outermost tree ends behind the last
pub behind_within : (bytes : List ℕ) (nodes : List Node) (all : Forest) (place : ℕ) (asked : Bool)
    → IsReached bytes nodes all place asked → place < length nodes → behind nodes place ≤ length nodes
behind_within bytes nodes all place asked r within = at_tree r.rest r.is_rest
  where
    at_tree : (g : Forest) → drop place nodes ≡ nodes_in g → behind nodes place ≤ length nodes
    at_tree none here =
        absurd (let e = length-drop place nodes in let h = ap length here in omega (arith, e, h, within))
    at_tree (atom kind from to rest) here =
        let b : below_in (slice_get nodes place) ≡ 0 = ap below_in
        (at_first bytes nodes place asked Goes (nodes_in (atom kind from to rest)) here) in
        omega (arith, b, within)
    at_tree (list from behind_first inner last to rest) here =
        let l = nodes_in (list from behind_first inner last to rest) in
        let b : below_in (slice_get nodes place) ≡ length (nodes_in inner) =
        ap below_in (at_first bytes nodes place asked Goes l here) in
        let e = length-drop place nodes in
        let h = ap length here in
        let a = length-append (nodes_in inner) (nodes_in rest) in
        omega (arith, b, within, e, h, a)

-- what is known behind a command
abbrev pub Reaches : List ℕ → List Node → Forest → ℕ → Bool → After → Type 0
Reaches bytes nodes all next asked Goes = IsReached bytes nodes all next asked
Reaches bytes nodes all next asked Asks = IsReached bytes nodes all next true
Reaches bytes nodes all next asked Ends = asked ≡ true → asks_from false (commands_in bytes all) ≡ true

module _ (bytes : List ℕ) (nodes : List Node) (all : Forest) (place next : ℕ) (asked : Bool) where
  reaches_by : (after : After) → IsReached bytes nodes all place asked → next ≡ behind nodes place
      → place < length nodes → place + 1 < behind nodes place
      → ruled (command_of (text_in bytes (slice_get nodes (place + 1)))) asked ≡ Some after
      → Reaches bytes nodes all next asked after
  reaches_by Goes r e within inside rules =
      let s = step bytes nodes place asked Goes r.rest r.is_rest within inside rules in
      record {
        rest = s.rest;
        is_rest = ap (λ k. drop k nodes) e ∙ s.is_rest;
        is_commands = r.is_commands ∙ s.is_commands;
      }
  reaches_by Asks r e within inside rules =
      let s = step bytes nodes place asked Asks r.rest r.is_rest within inside rules in
      record {
        rest = s.rest;
        is_rest = ap (λ k. drop k nodes) e ∙ s.is_rest;
        is_commands = r.is_commands ∙ s.is_commands;
      }
  reaches_by Ends r e within inside rules =
      let s = step bytes nodes place asked Ends r.rest r.is_rest within inside rules in
      λ h. r.is_commands ∙ s.is_commands ∙ h

  -- a command was taken, and carried out
  pub reaches : (tree end count most : ℕ) (after : After) → IsReached bytes nodes all place asked → tree ≡ place
      → tree < end → end ≡ count → count ≡ length nodes → end ≤ most
      → (behind nodes tree ≤ most → next ≡ behind nodes tree)
      → (tree < most → behind nodes tree ≤ most → (tree + 1 < behind nodes tree)
      × (ruled (command_of (text_in bytes (slice_get nodes (tree + 1)))) asked ≡ Some after))
      → Reaches bytes nodes all next asked after
  reaches tree end count most after r is within ends counted fits moved carried =
      let inside : place < length nodes = omega arith in
      let last : behind nodes place ≤ length nodes = behind_within bytes nodes all place asked r inside in
      let same : behind nodes tree ≡ behind nodes place = ap (behind nodes) is in
      let room : behind nodes tree ≤ most = omega (arith, last, same) in
      let below : tree < most = omega arith in
      let known = carried below room in
      let first : place + 1 < behind nodes place = omega (arith, known.0, same, is) in
      reaches_by after r (moved room ∙ same) inside first
      (subst (λ (k : ℕ). ruled (command_of (text_in bytes (slice_get nodes (k + 1)))) asked ≡ Some after) is known.1)

pub reached_last : (bytes : List ℕ) (nodes : List Node) (all : Forest) (place : ℕ) (asked : Bool)
    → IsReached bytes nodes all place asked → length nodes ≤ place → asked ≡ true
    → asks_from false (commands_in bytes all) ≡ true
unfolding asks_from
reached_last bytes nodes all place asked r past is_asked =
    r.is_commands ∙ at_tree r.rest r.is_rest
  where
    at_tree : (g : Forest) → drop place nodes ≡ nodes_in g → asks_from asked (commands_in bytes g) ≡ true
    at_tree none here = is_asked
    at_tree (atom kind from to rest) here =
        absurd (let e = length-drop place nodes in let h = ap length here in omega (arith, e, h, past))
    at_tree (list from behind_first inner last to rest) here =
        absurd (let e = length-drop place nodes in let h = ap length here in omega (arith, e, h, past))

-- ---- which fault is told

told_err : (X Y : Type 0) (bytes : List ℕ) (first : Option TreeFault) (fault : TreeFault)
    → ReadsOr {X = X} bytes first (Err fault) → TellsText {X = Y} bytes first (Err (told fault))
told_err X Y bytes (Some f) fault r = ap told r
told_err X Y bytes None (faults.Syntax at) r =
    subst (λ (o : Option ℕ). TellsUnfit o (script.Syntax at)) (sym r) (inl refl)
told_err X Y bytes None faults.OutOfMemory r = free (first_unfit bytes)
  where
    free : (o : Option ℕ) → TellsUnfit o script.OutOfMemory
    free None = tt
    free (Some at) = inr refl
told_err X Y bytes None (faults.Byte at) r = absurd r
told_err X Y bytes None (faults.Utf8 at) r = absurd r

-- the trees of a text were not read
pub tells_trees : (X Y : Type 0) (bytes : List ℕ) (first : Option TreeFault) (fault : TreeFault) (e : ScriptFault)
    → ReadsOr {X = X} bytes first (Err fault) → e ≡ told fault → TellsText {X = Y} bytes first (Err e)
tells_trees X Y bytes first fault e r is =
    subst (λ (x : ScriptFault). TellsText {X = Y} bytes first (Err x)) (sym is) (told_err X Y bytes first fault r)

-- they were read
pub tells_script : (X Y : Type 0) (bytes : List ℕ) (first : Option TreeFault) (x : X) (r : Result Y ScriptFault)
    → ReadsOr {X = X} bytes first (Ok x) → TellsText {X = Y} bytes first r
tells_script X Y bytes (Some f) x r h = absurd h
tells_script X Y bytes None x (Ok y) h = h
tells_script X Y bytes None x (Err e) h = subst (λ (o : Option ℕ). TellsUnfit o e) (sym h) tt

-- a script that was read from trees that the text spells
pub asked_text : (X : Type 0) (bytes : List ℕ) (trees : Trees) (r : Result X ScriptFault)
    → IsSpelled bytes trees.nodes.items → trees.bytes.now ≡ bytes
    → ((all : Forest) → trees.nodes.items ≡ nodes_in all
    → OnOk r (asks_from false (commands_in trees.bytes.now all) ≡ true)) → OnOk r (IsAsked bytes)
asked_text X bytes trees (Ok x) spelled same known =
    record {
      forest = spelled.forest;
      is_tokens = spelled.is_tokens;
      asks = ap (λ (l : List ℕ). asks_from false (commands_in l spelled.forest)) (sym same)
          ∙ known spelled.forest spelled.is_nodes;
    }
asked_text X bytes trees (Err e) spelled same known = tt

pub on_ok : (X : Type 0) (r : Result X ScriptFault) (P Q : Type 0) → OnOk r P → (P → Q) → OnOk r Q
on_ok X (Ok x) P Q h f = f h
on_ok X (Err e) P Q h f = tt
