-- The words of the program: `test PLAN ID`, `preview PLAN` and `groups`.
use Rattle.std.specs.Prelude.{ℕ, ◌≡◌, ◌<◌, ◌≤◌, ◌⊎◌, Bool, true, false, ◌&&◌, ◌==◌, nat_lt, if◌then◌else◌, List, [], length, slice_index_or, codes, bytes_eq}
use Rattle.dr_base.specs.Names.{is_name}
use Rattle.dr_base.specs.declared.command.Command.{Command}
use Rattle.dr_base.specs.declared.command.Command.TheVariants.{Run, Preview, Groups}
use Rattle.dr_base.specs.declared.command.RunWords.{RunWords}
use Rattle.dr_base.specs.declared.command.Op.TheVariants.{Testing}
use Rattle.dr_desk.specs.declared.words.Verb.{Verb}
use Rattle.dr_desk.specs.declared.words.Verb.TheVariants.{Test as TestVerb, Preview as PreviewVerb, Groups as GroupsVerb}

-- how many words a command has that begins with this word: none begins with any other
abbrev pub word_count : List ℕ → ℕ
word_count first =
    if bytes_eq first (codes "test") then 3 else (if bytes_eq first (codes "preview") then 2 else (if bytes_eq first (codes "groups") then 1 else 0))

-- the word at a place
abbrev pub word_at : List (List ℕ) → ℕ → List ℕ
word_at words place = slice_index_or words place []

-- whether the word at this place, from 0, may stand there: a command's first word, and then names
abbrev pub may_stand : List (List ℕ) → ℕ → Bool
may_stand words place =
    nat_lt place (word_count (word_at words 0)) && (if place == 0 then true else is_name (word_at words place))

-- names stand at each place from 1 below this one
abbrev pub NamesBelow : List (List ℕ) → ℕ → Type 0
NamesBelow words count = (place : ℕ) → place < count → 1 ≤ place → is_name (word_at words place) ≡ true

-- the words are those of a command, each in its place and none more
pub record AreCommandWords (words : List (List ℕ)) : Type 0 where
  pub some : 0 < length words
  pub count : length words ≡ word_count (word_at words 0)
  pub stands : (place : ℕ) → place < length words → may_stand words place ≡ true

-- a test of this plan under this id
pub record AreTestWords (words : List (List ℕ)) (run : RunWords) : Type 0 where
  pub first : word_at words 0 ≡ codes "test"
  pub op : run.op ≡ Testing
  pub plan : run.plan ≡ word_at words 1
  pub id : run.id ≡ word_at words 2
  pub unforced : run.forced ≡ false

-- a preview of this plan
pub record ArePreviewWords (words : List (List ℕ)) (plan : List ℕ) : Type 0 where
  pub first : word_at words 0 ≡ codes "preview"
  pub plan_is : plan ≡ word_at words 1

-- which command its words are
abbrev pub IsOfWords : List (List ℕ) → Command → Type 0
IsOfWords words (Run run) = AreTestWords words run
IsOfWords words (Preview plan) = ArePreviewWords words plan
IsOfWords words Groups = word_at words 0 ≡ codes "groups"
IsOfWords words _ = ⊥

-- the words are this command
pub record IsCommand (words : List (List ℕ)) (command : Command) : Type 0 where
  pub form : AreCommandWords words
  pub is : IsOfWords words command

-- words ask for this command: a test, a preview, or the datastore groups
abbrev pub IsAsked : Command → Type 0
IsAsked (Run run) = run.op ≡ Testing
IsAsked (Preview plan) = Unit {0}
IsAsked Groups = Unit {0}
IsAsked _ = ⊥

-- whether a command asks for a report
abbrev pub is_report : Command → Bool
is_report (Preview plan) = true
is_report Groups = true
is_report _ = false

-- the first word that may not stand at its place, or the number of words where one is missing
pub record IsFirstBadWord (words : List (List ℕ)) (place : ℕ) : Type 0 where
  pub within : place ≤ length words
  pub before : (earlier : ℕ) → earlier < place → may_stand words earlier ≡ true
  pub bad : place < length words → may_stand words place ≡ false
  pub missing : length words ≡ place → place ≡ 0 ⊎ place < word_count (word_at words 0)

-- how many words each command has
abbrev pub verb_count : Verb → ℕ
verb_count TestVerb = 3
verb_count PreviewVerb = 2
verb_count GroupsVerb = 1

-- the first word of each command
abbrev pub IsVerb : List ℕ → Verb → Type 0
IsVerb word TestVerb = word ≡ codes "test"
IsVerb word PreviewVerb = word ≡ codes "preview"
IsVerb word GroupsVerb = word ≡ codes "groups"
