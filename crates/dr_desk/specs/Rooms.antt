-- The room that a line takes for its answer.
use Rattle.std.specs.Prelude.{◌≡◌, ◌≤◌, [], vec_capacity}
use Rattle.dr_desk.specs.declared.room.Room.{Room}

-- empty, with room for one mark and for 1,024 bytes of text
pub record IsRoom (room : Room) : Type 0 where
  pub no_marks : room.marks.items ≡ []
  pub no_text : room.text.items ≡ []
  pub marks : 1 ≤ vec_capacity room.marks
  pub text : 1024 ≤ vec_capacity room.text
