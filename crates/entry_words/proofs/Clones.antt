-- A clone of an entry, of a note or of a moment is the same one.
use Rattle.std.proofs.Common.{◌≡◌, ℕ, arith, rules}
use Rattle.tect_ids.specs.declared.answer.Answer.{Answer}
use Rattle.tect_ids.specs.declared.command.Command.{Command}
use Rattle.tect_ids.specs.declared.ids.OpId.{OpId}
use Rattle.entry_words.proofs.WordClones.{same_answer, same_command}
use Rattle.entry_words.proofs.RequestClones.{same_req, same_reply}
use Rattle.entry_words.specs.contracts.entry.EntryClone.TheImpl as entry_clone
use Rattle.entry_words.specs.contracts.entry.MomentClone.TheImpl as moment_clone
use Rattle.entry_words.specs.contracts.entry.NoteClone.TheImpl as note_clone
use Rattle.entry_words.specs.declared.entry.Entry.{Entry}
use Rattle.program_forms.specs.declared.heard.Heard.{Heard}
use Rattle.entry_words.specs.declared.entry.Moment.{Moment}
use Rattle.entry_words.specs.declared.entry.Moment.TheVariants.{Act, Local}
use Rattle.entry_words.specs.declared.entry.Note.{Note}
use Rattle.entry_words.specs.declared.entry.Note.TheVariants.{Began, Ended, Stopped}

-- two entries are one where all their parts are
parts : (a b : Entry) → b.stamp ≡ a.stamp → b.place ≡ a.place → b.actor ≡ a.actor → b.number ≡ a.number → b.step ≡ a.step
    → b.req ≡ a.req → b.reply ≡ a.reply → b ≡ a
parts a b e f g h i j k = search rules

pub same_entry : (a b : Entry) → (entry_clone.ghosts).is_clone a b → b ≡ a
same_entry a b h =
    let (stamp, (place, (actor, (number, (step, (req, reply)))))) = h in
    parts a b stamp place actor number step (same_req a.req b.req req) (same_reply a.reply b.reply reply)

tie_began : (o p : OpId) (c d : Command) → o ≡ p → c ≡ d → Began o c ≡ Began p d
tie_began o p c d e f = cc

same_began : (p : OpId) (d : Command) (b : Note) → (note_clone.ghosts).is_clone (Began p d) b → b ≡ Began p d
same_began p d (Began o c) h = tie_began o p c d h.0 (same_command d c h.1)
same_began p d (Ended o a) h = elim h [ ]
same_began p d (Stopped o) h = elim h [ ]

tie_ended : (o p : OpId) (a b : Answer) → o ≡ p → a ≡ b → Ended o a ≡ Ended p b
tie_ended o p a b e f = cc

same_ended : (p : OpId) (a : Answer) (b : Note) → (note_clone.ghosts).is_clone (Ended p a) b → b ≡ Ended p a
same_ended p a (Began o c) h = elim h [ ]
same_ended p a (Ended o b) h = tie_ended o p b a h.0 (same_answer a b h.1)
same_ended p a (Stopped o) h = elim h [ ]

same_note : (a b : Note) → (note_clone.ghosts).is_clone a b → b ≡ a
same_note (Began op command) b h = same_began op command b h
same_note (Ended op answer) b h = same_ended op answer b h
same_note (Stopped op) b h = grind arith

tie_local : (s m : ℕ) (n : Note) (t k : ℕ) (o : Note) → t ≡ s → k ≡ m → o ≡ n → Local t k o ≡ Local s m n
tie_local s m n t k o e f g = cc

tie_act : (a b : Entry) (x y : Heard) → b ≡ a → y ≡ x → Act b y ≡ Act a x
tie_act a b x y e f = cc

same_heard : (x y : Heard) → y ≡ x → y ≡ x
same_heard x y e = e

pub same_moment : (a b : Moment) → (moment_clone.ghosts).is_clone a b → b ≡ a
same_moment (Act a x) (Act b y) h = tie_act a b x y (same_entry a b h.0) (same_heard x y h.1)
same_moment (Act a x) (Local stamp actor note) h = elim h [ ]
same_moment (Local s m n) (Act b y) h = elim h [ ]
same_moment (Local s m n) (Local t k o) h = tie_local s m n t k o h.0 h.1.0 (same_note n o h.1.1)
