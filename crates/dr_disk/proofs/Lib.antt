mod SpanLaws
mod Written
