-- The answer to a read or a trim, by what came of its stream.
use Rattle.std.specs.Prelude.{ℕ, List, [], ◌∷◌, ◌++◌, map, codes, decimal}
use Rattle.serde_json.specs.Data.{Data, string, array, object, member, no_members}
use Rattle.serde_json.specs.View.{items_of}
use Rattle.serde_json.specs.Written.{compact_text}
use Rattle.pairs.specs.Labels.{Label}
use Rattle.entries.specs.declared.entry.Entry.{Entry}
use Rattle.accept.specs.declared.call.Reply.TheVariants as replies
use Rattle.pushjson.specs.Bodies.{labels_tree}
use Rattle.requests.specs.declared.status.Status.{Status}
use Rattle.requests.specs.declared.status.Status.TheVariants as statuses
use Rattle.answering.specs.Calls.{Came, Replied}
use Rattle.answering.specs.Lines.{push_status, lines_from}

-- the object of the metadata, and nothing where there is none
abbrev pub meta_tree : List Label → List Data
meta_tree [] = []
meta_tree (p ∷ ps) = object (labels_tree (p ∷ ps)) ∷ []

-- a time, a line, and metadata where there is some
abbrev pub entry_tree : Entry → Data
entry_tree e = array (items_of (string (decimal e.time) ∷ string e.line ∷ meta_tree e.meta))

-- `{"values":[[time, line], [time, line, metadata], ..]}`
abbrev pub read_tree : List Entry → Data
read_tree es = object (member (codes "values") (array (items_of (map entry_tree es))) no_members)

-- `{"trimmed":n}`
unfoldable pub trimmed_text : ℕ → List ℕ
trimmed_text n = codes "{\"trimmed\":" ++ decimal n ++ codes "}"

-- the status of a read or a trim of whose stream this came: where it is no reply of their own, that of a push of this
-- one stream
abbrev pub one_status : Came → Status
one_status (Replied (replies.Entries es)) = statuses.Ok
one_status (Replied (replies.Trimmed n)) = statuses.Ok
one_status (Replied replies.TrimTooNew) = statuses.BadRequest
one_status (Replied replies.NoStream) = statuses.NotFound
one_status came = push_status (came ∷ [])

abbrev pub one_text : Came → List ℕ
one_text (Replied (replies.Entries es)) = compact_text (read_tree es)
one_text (Replied (replies.Trimmed n)) = trimmed_text n
one_text (Replied replies.TrimTooNew) = codes "trim bound is above the oldest accepted time"
one_text (Replied replies.NoStream) = codes "no such stream"
one_text came = lines_from 0 (came ∷ [])
