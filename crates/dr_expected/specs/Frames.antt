-- The program's frames as the definitions have them.
use Rattle.dr_outside.specs.Pairs.{Frame as FrameValue}
use Rattle.dr_expected.specs.declared.frames.Frame.{Frame}

-- a frame
abbrev pub frame_value : Frame → FrameValue
frame_value frame = record { source = frame.source; link = frame.link; writable = frame.writable; snapshot = frame.snapshot }
