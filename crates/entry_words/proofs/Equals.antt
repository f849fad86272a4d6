-- Two entries are equal where `==` says so.
use Rattle.std.proofs.Common.{◌≡◌, ℕ, Bool, ◌&&◌, Decides, true, eqb, refl, arith, rules}
use Rattle.tect_ids.specs.contracts.ids.PlacePartialEq.TheImpl as place_eq
use Rattle.tect_ids.specs.declared.ids.Place.{Place}
use Rattle.entry_words.proofs.RequestEquals.{req_decides, reply_decides}
use Rattle.store_rules.specs.contracts.any.AnyReplyPartialEq.TheImpl as any_reply
use Rattle.store_rules.specs.contracts.any.AnyReqPartialEq.TheImpl as any_req
use Rattle.entry_words.specs.contracts.entry.EntryPartialEq.TheImpl as entry
use Rattle.entry_words.specs.declared.entry.Entry.{Entry}

-- two entries are one where all their parts are
parts : (a b : Entry) → a.stamp ≡ b.stamp → a.place ≡ b.place → a.actor ≡ b.actor → a.number ≡ b.number → a.step ≡ b.step
    → a.req ≡ b.req → a.reply ≡ b.reply → a ≡ b
parts a b e f g h i j k = search rules

num : (m n : ℕ) → eqb m n ≡ true → m ≡ n
num m n e = grind arith

place : (p q : Place) → (place_eq.ghosts).eq p q ≡ true → p ≡ q
place p q e = grind arith

all_true : (p q r s t u v : Bool) → (p && (q && (r && (s && (t && (u && v)))))) ≡ true
    → (p ≡ true) × (q ≡ true) × (r ≡ true) × (s ≡ true) × (t ≡ true) × (u ≡ true) × (v ≡ true)
all_true p q r s t u v e = grind arith

itself : (a : Entry) → (any_req.ghosts).eq a.req a.req ≡ true → (any_reply.ghosts).eq a.reply a.reply ≡ true
    → (entry.ghosts).eq a a ≡ true
itself a e f = grind arith

pub entry_decides : (a b : Entry) → Decides ((entry.ghosts).eq a b) (a ≡ b)
entry_decides a b = (
  λ e. let s = all_true _ _ _ _ _ _ _ e in
      parts a b (num a.stamp b.stamp s.0) (place a.place b.place s.1) (num a.actor b.actor s.2) (num a.number b.number s.3)
      (num a.step b.step s.4) ((req_decides a.req b.req).0 s.5) ((reply_decides a.reply b.reply).0 s.6),
  λ e. rw e (itself b ((req_decides b.req b.req).1 refl) ((reply_decides b.reply b.reply).1 refl)),
)
